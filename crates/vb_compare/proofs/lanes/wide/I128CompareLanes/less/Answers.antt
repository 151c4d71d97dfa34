-- Written by tools/write-lists from tools/families/lanes.txt.
use Rattle.std.proofs.Common.{pos, int_lt, ◌∙◌, arith}
use Rattle.vb_compare.proofs.LaneLemmas.{compared_each}
use Rattle.vb_compare.proofs.lanes.wide.I128CompareLanes.less.Goals as goal

pub returns : goal.returns
returns c =
    c.pack_bool_word_lanes.ensures
    ∙ compared_each int_lt c.args.left c.args.right (pos 0) c.loop-k.bools
    c.requires.left.0 c.requires.right.0 c.loop-k.invariant.long
    (λ k h. c.loop-k.invariant.each k (omega arith))
