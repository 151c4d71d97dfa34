use Rattle.std.proofs.Common.{◌≡◌, ℕ, ◌+◌, ◌%◌, ◌<◌, ◌≤◌, false}
use Rattle.vb_bits.specs.Bits.{bits, at}
use Rattle.vb_count.specs.Hits.{hits}
use Rattle.vb_select.proofs.last.last_in_words.Given as goal

abbrev pub invariant-loop-left : goal.invariant-loop-left
invariant-loop-left l = record {
  within : l.left ≤ l.len;
  whole : 0 < l.left → (l.offset + l.left) % 8 ≡ 0;
  passed : (i : ℕ) → l.left ≤ i → i < l.len
      → at (hits l.value (bits l.bytes l.offset l.len)) i ≡ false;
}

abbrev pub decreases-loop-left : goal.decreases-loop-left
decreases-loop-left l = l.left
