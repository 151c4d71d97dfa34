-- The comparison returns for each row whether its value meets the condition.
use Rattle.std.proofs.Common.{ℕ, Bool, pos, map, ap, ◌∙◌}
use Rattle.std.proofs.lemmas.Result.{IfOk-weaker}
use Rattle.use_columns.specs.Filters.{is_met}
use Rattle.vortex_buffer.specs.Compares.{compares}
use Rattle.use_columns.proofs.FilterLemmas.{tested}
use Rattle.use_columns.proofs.filter.rows_where.Goals as goal

pub returns : goal.returns
returns g c =
    let test = is_met c.args.condition in
    let op = c.comparison-op.result.0 in let number : ℕ = c.comparison-op.result.1 in
    let answer : ℕ → Bool = λ v. compares op (pos v) (pos number) in
    record {
      ok = IfOk-weaker c.compared.result _ _ (λ s made. made.bits
          ∙ tested answer test c.as_slice.result.now c.comparison-op.ensures
          ∙ ap (map test) c.as_slice.ensures) c.compared.ensures.ok;
      refused = c.compared.ensures.refused;
    }
