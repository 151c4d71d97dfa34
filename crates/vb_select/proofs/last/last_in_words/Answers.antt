use Rattle.std.proofs.Common.{inl, inr, ◌-◌, ◌∙◌, arith}
use Rattle.std.proofs.lemmas.Bool.{cases_lt}
use Rattle.vb_select.proofs.LastLemmas.{IsPrevious-word}
use Rattle.vb_select.proofs.NearestLemmas.{at-hits, hit_other, off-zero, Shows-matches}
use Rattle.vb_select.proofs.last.last_in_words.Goals as goal

pub returns-then-left-eq0 : goal.returns-then-left-eq0
returns-then-left-eq0 c = λ i hi.
    let b = c.args.bytes.now in let o = c.args.offset in let v = c.args.value in
    let words = c.pass_words-left in
    elim (cases_lt i c.loop-left.left) [
      | inl here ↦
          at-hits v b o c.args.len i hi ∙ hit_other v _
          (words.ensures.passed i (omega (arith, c.if-left-eq0.true)) here)
      | inr last ↦ c.loop-left.invariant.passed i last hi
    ]

pub returns-then-word-ne0 : goal.returns-then-word-ne0
returns-then-word-ne0 c =
    let b = c.args.bytes.now in let o = c.args.offset in let v = c.args.value in
    let w = c.read_matches-word in let k = c.min-count.result in
    let words = c.pass_words-left in
    let inv = c.loop-left.invariant in
    let a = words.result - k in
    IsPrevious-word v b o c.args.len a k w.result
    (Shows-matches v b o a k w.result w.ensures.digits)
    (omega (arith, c.if-word-ne0.true)) w.ensures.clear (omega (arith, c.min-count.ensures))
    (omega (arith, c.min-count.ensures, inv.within, words.ensures.within))
    (λ i lo hi. elim (cases_lt i c.loop-left.left) [
      | inl here ↦
          at-hits v b o c.args.len i hi ∙ hit_other v _
          (words.ensures.passed i (omega (arith, c.min-count.ensures)) here)
      | inr last ↦ inv.passed i last hi
    ])

pub loop-left-preserved : goal.loop-left-preserved
loop-left-preserved c =
    let b = c.args.bytes.now in let o = c.args.offset in let v = c.args.value in
    let w = c.read_matches-word in let k = c.min-count.result in
    let words = c.pass_words-left in
    let inv = c.loop-left.invariant in
    let a = words.result - k in
    record {
      within = omega (arith, words.ensures.within, inv.within);
      whole = λ some. omega (arith, some, c.min-count.ensures, words.ensures.whole (omega arith));
      passed = λ i lo hi. elim (cases_lt i words.result) [
        | inl read ↦
            off-zero v b o c.args.len a k w.result
            (Shows-matches v b o a k w.result w.ensures.digits) c.if-word-ne0.false
            i lo (omega (arith, c.min-count.ensures))
        | inr behind ↦ elim (cases_lt i c.loop-left.left) [
          | inl here ↦
              at-hits v b o c.args.len i hi ∙ hit_other v _ (words.ensures.passed i behind here)
          | inr last ↦ inv.passed i last hi
        ]
      ];
    }

pub returns : goal.returns
returns c = λ i l. c.loop-left.invariant.passed i (omega (arith, c.loop-left-test.false)) l
