use Rattle.std.proofs.Common.{◌-◌, ◌≡◌, ◌+◌, ◌<◌, ◌≤◌}
use Rattle.vb_rank.specs.Tables.{binary_digits, count_before, Rises}
use Rattle.vb_rank.proofs.block.find_block.Given as goal

-- at most n values are before block low, and more than n before block low + left, if there is one
abbrev pub invariant-loop-left : goal.invariant-loop-left
invariant-loop-left g l = record {
  some : 0 < l.left;
  within : l.low + l.left ≤ l.size;
  below : l.before ≤ l.n;
  before : Rises l.width l.value (g.L.Level.seen l.level l.initial.source).entries
      → l.before
      ≡ count_before l.width l.value (g.L.Level.seen l.level l.initial.source).entries l.low;
  above : Rises l.width l.value (g.L.Level.seen l.level l.initial.source).entries
      → l.low + l.left < l.size
      → l.n
      < count_before l.width l.value (g.L.Level.seen l.level l.initial.source).entries
      (l.low + l.left);
  held : g.L.Level.held l.source ≡ g.L.Level.held l.initial.source;
  same : (g.L.Level.seen l.level l.source).entries
      ≡ (g.L.Level.seen l.level l.initial.source).entries;
  -- each turn takes one binary digit from the number of counts that are left
  halves : (g.L.Level.seen l.level l.source).probes + binary_digits (l.left - 1)
      ≡ (g.L.Level.seen l.level l.initial.source).probes
      + binary_digits (l.size - 1);
}

abbrev pub decreases-loop-left : goal.decreases-loop-left
decreases-loop-left g l = l.left
