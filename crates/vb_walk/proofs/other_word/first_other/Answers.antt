use Rattle.std.proofs.Common.{◌+◌, ◌*◌, ◌∙◌, sym, arith}
use Rattle.vb_walk.proofs.OthersLemmas.{AreAll_none, AreAll-word, AreAll-add, IsOther-word}
use Rattle.vb_walk.proofs.other_word.first_other.Goals as goal

pub returns-then-others-ne0 : goal.returns-then-others-ne0
returns-then-others-ne0 c =
    IsOther-word c.args.bytes.now c.args.value c.word_at-word.result c.args.at c.args.at c.args.end
    (omega arith) (omega (arith, c.requires.whole)) (omega (arith, c.requires.whole))
    (AreAll_none _ _ _ _ (omega arith)) c.word_at-word.ensures c.word_at-word.type_inv
    (λ z. c.if-others-ne0.true (c.others.ensures ∙ z))

pub loop-to-init : goal.loop-to-init
loop-to-init c = record {
  from = c.pass_fours-to.ensures.from;
  within = c.pass_fours-to.ensures.within;
  whole = omega (arith, c.requires.whole, c.pass_fours-to.ensures.whole);
  passed = AreAll-add c.args.bytes.now c.args.value _ (8 * (c.args.at + 8)) _
      (AreAll-word c.args.bytes.now c.args.value c.word_at-word.result
      c.args.at c.word_at-word.type_inv c.word_at-word.ensures
      (sym c.others.ensures ∙ c.if-others-ne0.false))
      c.pass_fours-to.ensures.passed;
}

pub returns-then-others-ne0-2 : goal.returns-then-others-ne0-2
returns-then-others-ne0-2 c =
    let inv = c.loop-to.invariant in
    IsOther-word c.args.bytes.now c.args.value c.word_at-word-in-loop-to.result c.args.at
    c.loop-to.to c.args.end (omega arith) (omega (arith, inv.whole)) (omega (arith, inv.whole))
    inv.passed c.word_at-word-in-loop-to.ensures c.word_at-word-in-loop-to.type_inv
    (λ z. c.if-others-ne0-2.true (c.others-in-loop-to.ensures ∙ z))

pub loop-to-preserved : goal.loop-to-preserved
loop-to-preserved c =
    let inv = c.loop-to.invariant in
    record {
      from = omega arith;
      within = omega (arith, inv.whole);
      whole = omega (arith, inv.whole);
      passed = AreAll-add c.args.bytes.now c.args.value _ (8 * c.loop-to.to) _ inv.passed
          (AreAll-word c.args.bytes.now c.args.value c.word_at-word-in-loop-to.result
          c.loop-to.to c.word_at-word-in-loop-to.type_inv c.word_at-word-in-loop-to.ensures
          (sym c.others-in-loop-to.ensures ∙ c.if-others-ne0-2.false));
    }
