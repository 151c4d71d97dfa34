use Rattle.std.proofs.Common.{◌≡◌, ◌++◌, Ok}
use Rattle.std.specs.List.{FoldsTo}
use Rattle.vb_bits.specs.Bits.{places}
use Rattle.vb_pack.specs.Asked.{CanAsk}
use Rattle.vb_bit_buffer.proofs.bit_buffer.BitBuffer.try_for_each_set_index.Given as goal

abbrev pub invariant-loop-i : goal.invariant-loop-i
invariant-loop-i g l = record {
  callable : CanAsk (goal.F-pre g) (λ p i r q. goal.F-step g p i (Ok r) q) l.f l.i-iterator;
  places : places l.self.bits ≡ l.yielded ++ l.i-iterator;
  ran : FoldsTo (λ p i q. goal.F-step g p i (Ok tt) q) l.fn.f l.yielded l.f;
}
