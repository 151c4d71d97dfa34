use Rattle.std.proofs.Common.{◌+◌, ◌*◌, ◌||◌, true, false, map, ◌∙◌}
use Rattle.vb_bits.specs.Operators.{merged_by}
use Rattle.vb_kleene.specs.Combined.{column, trues_by}
use Rattle.vb_kleene.specs.Kleene.{is_truth}
use Rattle.vb_kleene.proofs.PartLemmas.{both_parts}
use Rattle.vb_kleene.proofs.combine.block.Goals as goal

pub returns-clause-trues : goal.returns-clause-trues
returns-clause-trues g c =
    let l = column c.args.left.now in let r = column c.args.right.now in
    let at = 256 * c.args.k in
    c.words-trues.ensures.digits
    ∙ both_parts g.T.Merge.bit (map (is_truth true) l) (map (is_truth true) r) _ _ at (at + 256)
    c.block.ensures.trues c.block-2.ensures.trues

pub returns-clause-valid : goal.returns-clause-valid
returns-clause-valid g c =
    let l = column c.args.left.now in let r = column c.args.right.now in
    let at = 256 * c.args.k in let f = g.F.Merge.bit in
    let falses = merged_by f (map (is_truth false) l) (map (is_truth false) r) in
    c.words-2.ensures.digits
    ∙ both_parts (λ a b. a || b) (trues_by g.T.Merge.bit l r) falses _ _ at (at + 256)
    (returns-clause-trues g c) (c.words.ensures.digits
    ∙ both_parts f (map (is_truth false) l) (map (is_truth false) r) _ _ at (at + 256)
    c.block.ensures.falses c.block-2.ensures.falses)
