-- Written by tools/write-lists from tools/families/masked_floats.txt.
use Rattle.std.proofs.Common.{sym, ◌∙◌}
use Rattle.std.proofs.lemmas.Bool.{false≢true}
use Rattle.vb_aggregate.proofs.FloatsLemmas.{first_taken, first_passed, first_stays_one}
use Rattle.vb_aggregate.proofs.FloatsLemmas.{downwards_order}
use Rattle.vb_aggregate.specs.Floats.{downwards}
use Rattle.vb_aggregate.proofs.float_extreme.GreatestNumberFold.add.Goals as goal

pub returns-then-is_above : goal.returns-then-is_above
returns-then-is_above g c = λ xs so_far.
    let float = g.T.FloatSummand.float in
    elim c.if-is_nan.branch [
      | goal.then-is_nan w ↦
          first_taken downwards downwards_order float xs c.args.state c.args.value
          (sym c.is_nan.ensures ∙ w.if-is_nan.true) so_far
      | goal.else-is_nan w ↦
          first_passed downwards downwards_order float xs c.args.state c.args.value
          (sym c.is_nan.ensures ∙ w.if-is_nan.false)
          (sym w.is_above.ensures ∙ sym w.value-is ∙ c.if-is_above.true) so_far
    ]

pub returns-else-is_above : goal.returns-else-is_above
returns-else-is_above g c = λ xs so_far.
    let float = g.T.FloatSummand.float in
    elim c.if-is_nan.branch [
      | goal.then-is_nan w ↦
          absurd (false≢true (sym c.if-is_above.false ∙ w.value-is ∙ w.if-is_nan.true))
      | goal.else-is_nan w ↦
          first_stays_one downwards float xs c.args.state c.args.value
          (sym c.is_nan.ensures ∙ w.if-is_nan.false)
          (sym w.is_above.ensures ∙ sym w.value-is ∙ c.if-is_above.false) so_far
    ]
