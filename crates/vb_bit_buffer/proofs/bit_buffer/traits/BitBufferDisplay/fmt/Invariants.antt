use Rattle.std.proofs.Common.{take}
use Rattle.std.specs.Fmt.{HasWritten, IsPlainFormatter}
use Rattle.vb_bits.specs.Shown.{truth_words}
use Rattle.vb_bit_buffer.proofs.bit_buffer.traits.BitBufferDisplay.fmt.Given as goal

abbrev pub invariant-loop-i : goal.invariant-loop-i
invariant-loop-i g l =
    IsPlainFormatter l.initial.f
    → HasWritten g.W.Write.write_str_gives l.initial.f (truth_words (take l.i l.self.bits)) l.f
