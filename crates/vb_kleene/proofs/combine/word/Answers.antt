use Rattle.std.proofs.Common.{◌+◌, ◌||◌, true, false, map, ◌∙◌}
use Rattle.vb_bits.specs.Operators.{merged_by}
use Rattle.vb_bits.proofs.OperatorsLemmas.{digits-merged_by}
use Rattle.vb_kleene.specs.Combined.{column, trues_by}
use Rattle.vb_kleene.specs.Kleene.{is_truth}
use Rattle.vb_kleene.proofs.PartLemmas.{both_parts}
use Rattle.vb_kleene.proofs.combine.word.Goals as goal

pub returns-clause-trues : goal.returns-clause-trues
returns-clause-trues g c =
    let l = column c.args.left.now in let r = column c.args.right.now in
    let at = c.args.at in let n = c.args.n in
    digits-merged_by g.T.Merge.bit _ _ _ n c.requires.few c.word-trues.ensures
    ∙ both_parts g.T.Merge.bit (map (is_truth true) l) (map (is_truth true) r) _ _ at (at + n)
    c.word-left_trues.ensures.trues c.word-right_trues.ensures.trues

pub returns-clause-valid : goal.returns-clause-valid
returns-clause-valid g c =
    let l = column c.args.left.now in let r = column c.args.right.now in
    let at = c.args.at in let n = c.args.n in let f = g.F.Merge.bit in
    let falses = merged_by f (map (is_truth false) l) (map (is_truth false) r) in
    digits-merged_by (λ a b. a || b) _ _ _ n c.requires.few c.word-2.ensures
    ∙ both_parts (λ a b. a || b) (trues_by g.T.Merge.bit l r) falses _ _ at (at + n)
    (returns-clause-trues g c) (digits-merged_by f _ _ _ n c.requires.few c.word.ensures
    ∙ both_parts f (map (is_truth false) l) (map (is_truth false) r) _ _ at (at + n)
    c.word-left_trues.ensures.falses c.word-right_trues.ensures.falses)
