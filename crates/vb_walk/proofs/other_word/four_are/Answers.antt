use Rattle.std.proofs.Common.{◌+◌, ◌*◌, ◌∙◌, sym, arith}
use Rattle.std.proofs.lemmas.Bool.{eqb-true}
use Rattle.vb_walk.proofs.OthersLemmas.{AreAll-word, AreAll-add, four_zeros}
use Rattle.vb_walk.proofs.other_word.four_are.Goals as goal

pub returns : goal.returns
returns c = λ t.
    let b = c.args.bytes.now in let v = c.args.value in let a = c.args.at in
    let none = four_zeros c.others-first.result
    c.others-second.result c.others-third.result c.others-fourth.result (eqb-true _ 0 t) in
    let first = AreAll-word b v c.word_at.result a c.word_at.type_inv c.word_at.ensures
    (sym c.others-first.ensures ∙ none.0) in
    let second = AreAll-word b v c.word_at-2.result
    (a + 8) c.word_at-2.type_inv c.word_at-2.ensures (sym c.others-second.ensures ∙ none.1) in
    let third = AreAll-word b v c.word_at-3.result
    (a + 16) c.word_at-3.type_inv c.word_at-3.ensures (sym c.others-third.ensures ∙ none.2) in
    let fourth = AreAll-word b v c.word_at-4.result
    (a + 24) c.word_at-4.type_inv c.word_at-4.ensures (sym c.others-fourth.ensures ∙ none.3) in
    λ i lo hi.
    AreAll-add b v (8 * a) (8 * (a + 16)) (8 * (a + 32))
    (AreAll-add b v
    (8 * a) (8 * (a + 8)) (8 * (a + 16)) first (λ i lo hi. second i lo (omega arith)))
    (AreAll-add b v (8 * (a + 16)) (8 * (a + 24)) (8 * (a + 32)) (λ i lo hi.
    third i lo (omega arith)) (λ i lo hi. fourth i lo (omega arith)))
    i lo hi
