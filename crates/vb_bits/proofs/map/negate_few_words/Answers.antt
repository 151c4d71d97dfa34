use Rattle.std.proofs.Common.{refl, arith}
use Rattle.vb_bits.proofs.WritesLemmas.{Writes_negated_none, Writes-complement}
use Rattle.vb_bits.proofs.map.negate_few_words.Goals as goal

pub returns-then-n-eq0 : goal.returns-then-n-eq0
returns-then-n-eq0 c = Writes_negated_none _ _ _ (omega (arith, c.if-n-eq0.true))

pub returns-then-n-eq2 : goal.returns-then-n-eq2
returns-then-n-eq2 c = Writes-complement _ _ _ _ _ _ _ _
    c.negate_word.ensures c.negate_word-2.ensures (omega arith) (omega (arith, c.if-n-eq2.true))

pub returns : goal.returns
returns c =
    let two = Writes-complement _ _ _ _ _ _ _ 128
    c.negate_word.ensures c.negate_word-2.ensures (omega arith) refl in
    Writes-complement _ _ _ _ _ _ _ _ two c.negate_word-3.ensures (omega arith)
    (omega (arith, c.requires.few, c.if-n-eq0.false, c.if-n-eq1.false, c.if-n-eq2.false))
