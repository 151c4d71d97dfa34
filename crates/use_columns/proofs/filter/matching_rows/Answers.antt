-- The mask of the condition, combined with that of the valid rows.
use Rattle.std.proofs.Common.{arith, ◌≡◌, ◌&&◌, length, ap, ◌∙◌}
use Rattle.std.proofs.lemmas.List.{length-map}
use Rattle.std.proofs.lemmas.Result.{IfOk-weaker}
use Rattle.vortex_buffer.specs.Operators.{merged_by}
use Rattle.use_columns.specs.Filters.{is_met}
use Rattle.use_columns.proofs.FilterLemmas.{merged_matches_of}
use Rattle.use_columns.proofs.filter.matching_rows.Goals as goal

pub returns : goal.returns
returns g c =
    let test = is_met c.args.condition in
    let valid = c.args.valid.now.bits in
    let values = c.args.values.now.list in
    let met = c.in_ok-rows_where.ensures.ok in
    let len : length c.in_ok-rows_where.field-0.bits ≡ length valid =
    omega (arith, ap length met, length-map values test, c.requires) in
    record {
      ok = IfOk-weaker c.bitand.result _ _ (λ s e. e
          ∙ ap (λ l. merged_by (λ a b. a && b) l valid) met
          ∙ merged_matches_of test valid values c.requires) c.bitand.ensures.ok;
      refused = c.bitand.ensures.same_len len;
    }
