use Rattle.std.proofs.Common.{◌≡◌, ◌*◌}
use Rattle.vb_pair.specs.Merged.{merged_ones}
use Rattle.vb_pair.proofs.count_merged.count_short.Given as goal

abbrev pub invariant-loop-k : goal.invariant-loop-k
invariant-loop-k g l = l.ones ≡ merged_ones g.M.Merge.bit l.left l.l l.right l.r (64 * l.k)
