use Rattle.std.proofs.Common.{◌≡◌, ℕ, ◌-◌, ◌/◌, ◌<◌, ◌≤◌, length, slice_index, slice_index_or}
use Rattle.vb_rank.specs.Tables.{Narrows, ProbesAtMost}
use Rattle.vb_rank.proofs.side_by_side.halve_each.Given as goal

abbrev pub invariant-loop-k : goal.invariant-loop-k
invariant-loop-k g l = record {
  lows : length l.lanes.low ≡ 8;
  befores : length l.lanes.before ≡ 8;
  lefts : length l.lanes.left ≡ 8;
  each : (i : ℕ) (d : g.row.L.Denot) → i < 8 → Narrows l.width l.value
      (g.L.Level.seen (slice_index_or l.levels i d) l.initial.source).entries
      (slice_index l.ns i) (slice_index l.lanes.low i) (slice_index l.lanes.before i)
      (slice_index l.lanes.left i);
  done : (i : ℕ) → i < l.k → slice_index l.lanes.left i
      ≡ slice_index l.initial.lanes.left i - slice_index l.initial.lanes.left i / 2;
  left : (i : ℕ) → l.k ≤ i → slice_index l.lanes.left i ≡ slice_index l.initial.lanes.left i;
  same : g.L.Level.held l.source ≡ g.L.Level.held l.initial.source;
  probes : (x : g.row.L.Denot) → ProbesAtMost l.k (g.L.Level.seen x l.initial.source)
      (g.L.Level.seen x l.source);
}
