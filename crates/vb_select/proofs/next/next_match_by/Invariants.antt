use Rattle.std.proofs.Common.{◌≡◌, ℕ, ◌+◌, ◌-◌, ◌<◌, ◌≤◌, false}
use Rattle.vb_bits.specs.Bits.{bits, at}
use Rattle.vb_count.specs.Hits.{hits}
use Rattle.vb_count.specs.Looks.{looks}
use Rattle.vb_select.proofs.next.next_match_by.Given as goal

abbrev pub invariant-loop-at : goal.invariant-loop-at
invariant-loop-at g l = record {
  from : l.from ≤ l.at;
  same : (g.G.Glance.seen l.src).bytes ≡ (g.G.Glance.seen l.initial.src).bytes;
  passed : (i : ℕ) → l.from ≤ i → i < l.at → at (hits l.value
      (bits (g.G.Glance.seen l.initial.src).bytes l.offset l.len)) i ≡ false;
  most : (g.G.Glance.seen l.src).looks
      ≤ (g.G.Glance.seen l.initial.src).looks + looks (l.offset + l.from) (l.len - l.from);
  looks : (n : ℕ) → l.at ≤ n → n ≤ l.len
      → (g.G.Glance.seen l.src).looks + looks (l.offset + l.at) (n - l.at)
      ≤ (g.G.Glance.seen l.initial.src).looks + looks (l.offset + l.from) (n - l.from);
}

abbrev pub decreases-loop-at : goal.decreases-loop-at
decreases-loop-at g l = l.len - l.at
