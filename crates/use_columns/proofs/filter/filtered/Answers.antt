-- The values of the matching rows are the valid ones that meet the condition.
use Rattle.std.proofs.Common.{length, sym, ap, ◌∙◌}
use Rattle.std.proofs.lemmas.Result.{IfOk-weaker}
use Rattle.vortex_buffer.specs.Kept.{kept_by}
use Rattle.use_columns.specs.Filters.{is_met}
use Rattle.use_columns.proofs.FilterLemmas.{length-matches_of, kept_by_matches_of}
use Rattle.use_columns.proofs.filter.filtered.Goals as goal

pub returns : goal.returns
returns g c =
    let test = is_met c.args.condition in
    let valid = c.args.valid.now.bits in
    let values = c.args.values.now.list in
    let rows = c.in_ok-rows.ensures.ok in
    let same = ap length c.as_view.ensures.bits ∙ ap length rows
    ∙ length-matches_of test valid values c.requires in
    record {
      ok = IfOk-weaker c.filtered-found.result _ _
          (λ found e. e.list ∙ ap (λ l. kept_by l values) (c.as_view.ensures.bits ∙ rows)
          ∙ kept_by_matches_of test valid values) c.filtered-found.ensures.ok;
      refused = c.filtered-found.ensures.same_len (sym same);
    }
