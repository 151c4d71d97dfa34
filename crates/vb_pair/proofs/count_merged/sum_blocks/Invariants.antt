use Rattle.std.proofs.Common.{◌≡◌, ◌*◌}
use Rattle.vb_pair.specs.Merged.{merged_ones}
use Rattle.vb_pair.proofs.count_merged.sum_blocks.Given as goal

abbrev pub invariant-loop-k : goal.invariant-loop-k
invariant-loop-k g l =
    l.sum ≡ merged_ones g.M.Merge.bit l.left (8 * l.l) l.right (8 * l.r) (256 * l.k)
