use Rattle.std.proofs.Common.{◌≡◌, ℕ, ◌+◌, ◌%◌, ◌<◌, ◌≤◌, not}
use Rattle.vb_bits.specs.Bits.{bit_of}
use Rattle.vb_select.proofs.last.pass_groups.Given as goal

abbrev pub invariant-loop-left : goal.invariant-loop-left
invariant-loop-left l = record {
  within : l.left ≤ l.len;
  whole : 0 < l.left → (l.offset + l.left) % 8 ≡ 0;
  passed : (i : ℕ) → l.left ≤ i → i < l.len → bit_of l.bytes (l.offset + i) ≡ not l.value;
}

abbrev pub decreases-loop-left : goal.decreases-loop-left
decreases-loop-left l = l.left
