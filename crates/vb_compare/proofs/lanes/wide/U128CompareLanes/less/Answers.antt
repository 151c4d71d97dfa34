use Rattle.std.proofs.Common.{ltb, int_lt, refl, ◌∙◌, arith}
use Rattle.vb_compare.proofs.LaneLemmas.{unsigned_each}
use Rattle.vb_compare.proofs.lanes.wide.U128CompareLanes.less.Goals as goal

pub returns : goal.returns
returns c =
    c.pack_bool_word_lanes.ensures
    ∙ unsigned_each ltb int_lt (λ x y. refl) c.args.left c.args.right c.loop-k.bools
    c.requires.left c.requires.right c.loop-k.invariant.long
    (λ k h. c.loop-k.invariant.each k (omega arith))
