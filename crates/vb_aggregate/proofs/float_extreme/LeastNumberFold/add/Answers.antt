-- Written by tools/write-lists from tools/families/masked_floats.txt.
use Rattle.std.proofs.Common.{sym, ◌∙◌}
use Rattle.std.proofs.lemmas.Bool.{false≢true}
use Rattle.vb_aggregate.proofs.FloatsLemmas.{first_taken, first_passed, first_stays_one}
use Rattle.vb_aggregate.proofs.FloatsLemmas.{upwards_order}
use Rattle.vb_aggregate.specs.Floats.{upwards}
use Rattle.vb_aggregate.proofs.float_extreme.LeastNumberFold.add.Goals as goal

pub returns-then-is_below : goal.returns-then-is_below
returns-then-is_below g c = λ xs so_far.
    let float = g.T.FloatSummand.float in
    elim c.if-is_nan.branch [
      | goal.then-is_nan w ↦
          first_taken upwards upwards_order float xs c.args.state c.args.value
          (sym c.is_nan.ensures ∙ w.if-is_nan.true) so_far
      | goal.else-is_nan w ↦
          first_passed upwards upwards_order float xs c.args.state c.args.value
          (sym c.is_nan.ensures ∙ w.if-is_nan.false)
          (sym w.is_below.ensures ∙ sym w.value-is ∙ c.if-is_below.true) so_far
    ]

pub returns-else-is_below : goal.returns-else-is_below
returns-else-is_below g c = λ xs so_far.
    let float = g.T.FloatSummand.float in
    elim c.if-is_nan.branch [
      | goal.then-is_nan w ↦
          absurd (false≢true (sym c.if-is_below.false ∙ w.value-is ∙ w.if-is_nan.true))
      | goal.else-is_nan w ↦
          first_stays_one upwards float xs c.args.state c.args.value
          (sym c.is_nan.ensures ∙ w.if-is_nan.false)
          (sym w.is_below.ensures ∙ sym w.value-is ∙ c.if-is_below.false) so_far
    ]
