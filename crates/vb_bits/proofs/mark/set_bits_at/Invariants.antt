use Rattle.std.specs.Prelude.{◌<◌, All}
use Rattle.vb_bits.specs.Writes.{KeepsBehind}
use Rattle.vb_bits.proofs.MarksLemmas.{MarkedAt}
use Rattle.vb_bits.proofs.mark.set_bits_at.Given as goal

abbrev pub invariant-loop-place : goal.invariant-loop-place
invariant-loop-place g l = record {
  can : (goal.iterator-loop-place g).can_next l.place-iterator;
  finite : (goal.iterator-loop-place g).is_finite l.place-iterator;
  marked : MarkedAt l.len l.yielded l.fn.bytes l.bytes;
  below : All (λ p. p < l.len) l.yielded;
  keeps : KeepsBehind l.len l.fn.bytes l.bytes;
}
