use Rattle.std.proofs.Common.{refl, arith}
use Rattle.vb_bits.proofs.OperatorsLemmas.{Writes_merged_none, Writes-merged_by}
use Rattle.vb_bits.proofs.merge.merge_few_words.Goals as goal

pub returns-then-n-eq0 : goal.returns-then-n-eq0
returns-then-n-eq0 g c =
    Writes_merged_none g.M.Merge.bit _ _ _ _ _ (omega (arith, c.if-n-eq0.true))

pub returns-then-n-eq2 : goal.returns-then-n-eq2
returns-then-n-eq2 g c = Writes-merged_by g.M.Merge.bit _ _ _ _ _ _ _ _ _ _ _
    c.merge_word.ensures c.merge_word-2.ensures refl refl (omega (arith, c.if-n-eq2.true))

pub returns : goal.returns
returns g c =
    let two = Writes-merged_by g.M.Merge.bit _ _ _ _ _ _ _ _ _ _ 128
    c.merge_word.ensures c.merge_word-2.ensures refl refl refl in
    Writes-merged_by g.M.Merge.bit _ _ _ _ _ _ _ _ _ _ _ two c.merge_word-3.ensures refl refl
    (omega (arith, c.requires.few, c.if-n-eq0.false, c.if-n-eq1.false, c.if-n-eq2.false))
