use Rattle.std.proofs.Common.{eqb, int_eq, ◌∙◌, arith}
use Rattle.vb_compare.proofs.LaneLemmas.{unsigned_each, nat_equal}
use Rattle.vb_compare.proofs.lanes.wide.U128CompareLanes.equal.Goals as goal

pub returns : goal.returns
returns c =
    c.pack_bool_word_lanes.ensures
    ∙ unsigned_each eqb int_eq nat_equal c.args.left c.args.right c.loop-k.bools
    c.requires.left c.requires.right c.loop-k.invariant.long
    (λ k h. c.loop-k.invariant.each k (omega arith))
