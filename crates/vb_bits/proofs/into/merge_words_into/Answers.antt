use Rattle.std.proofs.Common.{refl, arith}
use Rattle.vb_bits.proofs.OperatorsLemmas.{Writes_into_none, Writes-into}
use Rattle.vb_bits.proofs.into.merge_words_into.Goals as goal

pub returns-then-n-eq0 : goal.returns-then-n-eq0
returns-then-n-eq0 g c =
    Writes_into_none g.M.Merge.bit _ _ _ _ _ _ _ (omega (arith, c.if-n-eq0.true))

pub returns-then-n-eq2 : goal.returns-then-n-eq2
returns-then-n-eq2 g c = Writes-into g.M.Merge.bit _ _ _ _ _ _ _ _ _ _ _ _ _ _
    c.merge_word_into.ensures c.merge_word_into-2.ensures refl refl refl
    (omega (arith, c.if-n-eq2.true))

pub returns : goal.returns
returns g c =
    let two = Writes-into g.M.Merge.bit _ _ _ _ _ _ _ _ _ _ _ _ _ 128
    c.merge_word_into.ensures c.merge_word_into-2.ensures refl refl refl refl in
    Writes-into g.M.Merge.bit _ _ _ _ _ _ _ _ _ _ _ _ _ _ two c.merge_word_into-3.ensures refl
    refl refl
    (omega (arith, c.requires.few, c.if-n-eq0.false, c.if-n-eq1.false, c.if-n-eq2.false))
