use Rattle.std.proofs.Common.{sym, ap, ◌∙◌}
use Rattle.use_columns.specs.Filters.{is_met}
use Rattle.use_columns.proofs.FilterLemmas.{nat_equal}
use Rattle.use_columns.proofs.condition.Condition.comparison.Goals as goal

pub returns-in-Equals : goal.returns-in-Equals
returns-in-Equals c = λ value.
    nat_equal value c.in-Equals.number ∙ ap (λ k. is_met k value) (sym c.in-Equals.is)
