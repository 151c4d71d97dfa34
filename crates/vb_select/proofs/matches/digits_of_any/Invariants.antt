use Rattle.std.proofs.Common.{◌≡◌, ℕ, ◌+◌, ◌*◌, ◌<◌, not}
use Rattle.vb_bits.specs.Bits.{bit_of, bits, count}
use Rattle.vb_count.specs.Hits.{hits}
use Rattle.vb_select.proofs.matches.digits_of_any.Given as goal

abbrev pub invariant-loop-k : goal.invariant-loop-k
invariant-loop-k l = record {
  none : l.digits ≡ 0
      → (i : ℕ) → i < 64 * l.k → bit_of l.bytes (8 * l.at + i) ≡ not l.value;
  some : 0 < l.digits → 0 < count (hits l.value (bits l.bytes (8 * l.at) (64 * l.k)));
}
