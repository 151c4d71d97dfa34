use Rattle.std.proofs.Common.{inl, inr}
use Rattle.std.proofs.lemmas.Bool.{cases_lt}
use Rattle.vb_select.proofs.last.pass_words.Goals as goal

pub returns-clause-passed : goal.returns-clause-passed
returns-clause-passed c = λ i lo hi.
    let eights = c.pass_groups-eights in let fours = c.pass_groups-fours in
    elim (cases_lt i fours.result) [
      | inl one ↦ c.pass_groups.ensures.passed i lo one
      | inr past ↦ elim (cases_lt i eights.result) [
        | inl four ↦ fours.ensures.passed i past four
        | inr behind ↦ eights.ensures.passed i behind hi
      ]
    ]
