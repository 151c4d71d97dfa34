use Rattle.std.proofs.Common.{◌+◌, ◌-◌}
use Rattle.std.specs.List.{FoldsTo}
use Rattle.vb_bits.specs.Bits.{bit_of}
use Rattle.vb_pack.specs.Asked.{CanAsk, span}
use Rattle.vb_bit_buffer.proofs.bit_buffer.for_each.bits_in_word.Given as goal

-- the calls at the remaining indices end in the state in which all calls end
abbrev pub invariant-loop-i : goal.invariant-loop-i
invariant-loop-i g l = record {
  callable : CanAsk (λ p i. goal.F-pre g p i (bit_of l.bytes (l.offset + i)))
      (λ p i r q. goal.F-step g p i (bit_of l.bytes (l.offset + i)) r q) l.f
      (span (l.base + l.i) (l.len - l.i));
  ran : (last : _) → FoldsTo (λ p i q. goal.F-step g p i (bit_of l.bytes (l.offset + i)) tt q) l.f
      (span (l.base + l.i) (l.len - l.i)) last
      → FoldsTo (λ p i q. goal.F-step g p i (bit_of l.bytes (l.offset + i)) tt q) l.initial.f
      (span l.base l.len) last;
}
