use Rattle.std.proofs.Common.{◌≡◌, ℕ, ◌+◌, ◌-◌, ◌*◌, ◌<◌, ◌≤◌, slice_index, slice_index_or}
use Rattle.vb_rank.specs.Tables.{Narrows, binary_digits}
use Rattle.vb_rank.proofs.side_by_side.find_blocks.Given as goal

abbrev pub invariant-loop-left : goal.invariant-loop-left
invariant-loop-left g l = record {
  each : (i : ℕ) (d : g.row.L.Denot) → i < 8 → Narrows l.width l.value
      (g.L.Level.seen (slice_index_or l.levels i d) l.fn.source).entries
      (slice_index l.ns i) (slice_index l.lanes.low i) (slice_index l.lanes.before i)
      (slice_index l.lanes.left i);
  small : (i : ℕ) → i < 8 → slice_index l.lanes.left i ≤ l.left;
  same : g.L.Level.held l.source ≡ g.L.Level.held l.fn.source;
  -- each turn takes one binary digit from the greatest number of counts left
  probes : (x : g.row.L.Denot) → (g.L.Level.seen x l.source).probes + 8 * binary_digits (l.left - 1)
      ≤ (g.L.Level.seen x l.fn.source).probes + 8 * binary_digits (l.most - 1);
}

abbrev pub decreases-loop-left : goal.decreases-loop-left
decreases-loop-left g l = l.left
