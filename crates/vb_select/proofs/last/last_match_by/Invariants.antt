use Rattle.std.proofs.Common.{◌≡◌, ℕ, ◌+◌, ◌-◌, ◌<◌, ◌≤◌, false}
use Rattle.vb_bits.specs.Bits.{bits, at}
use Rattle.vb_count.specs.Hits.{hits}
use Rattle.vb_count.specs.Looks.{looks}
use Rattle.vb_select.proofs.last.last_match_by.Given as goal

abbrev pub invariant-loop-left : goal.invariant-loop-left
invariant-loop-left g l = record {
  within : l.left ≤ l.len;
  same : (g.G.Glance.seen l.src).bytes ≡ (g.G.Glance.seen l.initial.src).bytes;
  passed : (i : ℕ) → l.left ≤ i → i < l.len → at (hits l.value
      (bits (g.G.Glance.seen l.initial.src).bytes l.offset l.len)) i ≡ false;
  looks : (p : ℕ) → p ≤ l.left
      → (g.G.Glance.seen l.src).looks + looks (l.offset + p) (l.left - p)
      ≤ (g.G.Glance.seen l.initial.src).looks + looks (l.offset + p) (l.len - p);
}

abbrev pub decreases-loop-left : goal.decreases-loop-left
decreases-loop-left g l = l.left
