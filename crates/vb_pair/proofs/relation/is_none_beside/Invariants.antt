use Rattle.std.proofs.Common.{◌≡◌, ℕ, ◌+◌, ◌-◌, ◌<◌, ◌≤◌}
use Rattle.vb_count.specs.Looks.{looks}
use Rattle.vb_pair.specs.Beside.{IsHeld}
use Rattle.vb_pair.specs.Merged.{merged_ones}
use Rattle.vb_pair.proofs.StopsLemmas.{looks_held}
use Rattle.vb_pair.proofs.relation.is_none_beside.Given as goal

abbrev pub invariant-loop-done : goal.invariant-loop-done
invariant-loop-done g l = record {
  within : l.done ≤ l.len;
  left : (g.L.Glance.seen l.left).bytes ≡ (g.L.Glance.seen l.initial.left).bytes;
  right : (g.R.Glance.seen l.right).bytes ≡ (g.R.Glance.seen l.initial.right).bytes;
  none : merged_ones g.M.Merge.bit (g.L.Glance.seen l.initial.left).bytes l.l
      (g.R.Glance.seen l.initial.right).bytes l.r l.done ≡ 0;
  held : l.done < l.len
      → IsHeld (g.R.Glance.seen l.initial.right).bytes (l.r + l.done) l.held;
  looks : (n : ℕ) → l.done ≤ n → n ≤ l.len
      → (g.L.Glance.seen l.left).looks + looks (l.l + l.done) (n - l.done)
      ≤ (g.L.Glance.seen l.initial.left).looks + looks l.l n;
  beside : (g.R.Glance.seen l.right).looks
      + looks_held (l.l + l.done) (l.r + l.done) (l.len - l.done)
      ≤ (g.R.Glance.seen l.initial.right).looks + looks_held l.l l.r l.len;
  no_more : (g.R.Glance.seen l.right).looks + (g.L.Glance.seen l.initial.left).looks
      ≤ (g.L.Glance.seen l.left).looks + (g.R.Glance.seen l.initial.right).looks;
}

abbrev pub decreases-loop-done : goal.decreases-loop-done
decreases-loop-done g l = l.len - l.done
