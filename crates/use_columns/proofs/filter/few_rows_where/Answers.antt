-- The closure returns for each row whether its value meets the condition.
use Rattle.std.proofs.Common.{rules, arith, ◌≡◌, ◌<◌, length, map, slice_index, refl, ap, ◌∙◌}
use Rattle.std.proofs.lemmas.Result.{IfOk-weaker}
use Rattle.vortex_buffer.proofs.AnswersLemmas.{CanAsk-from, Answers-from}
use Rattle.use_columns.specs.Filters.{is_met}
use Rattle.use_columns.proofs.FilterLemmas.{map_of_span}
use Rattle.use_columns.proofs.filter.few_rows_where.Goals as goal

pub collect_bool-requires : goal.collect_bool-requires
collect_bool-requires g c =
    let items = c.as_slice-items.result.now in
    CanAsk-from _ _ (λ k p. p.1.now ≡ items) 0 (length items)
    (λ k p h same. let within : k < length p.1.now = omega (arith, ap length same) in search rules)
    (λ k p b q h same said. search rules) _ refl

pub returns : goal.returns
returns g c =
    let items = c.as_slice-items.result.now in
    let test = is_met c.args.condition in
    record {
      ok = IfOk-weaker c.collect_bool.result _ _ (λ s asked.
          let told = Answers-from _ (λ k p. (p.1.now ≡ items) × (p.0.now ≡ c.args.condition))
          (λ k. test (slice_index items k)) 0 (length items)
          (λ k p b q h same said.
          let value : b ≡ is_met p.0.now (slice_index p.1.now k) = search rules in
          let kept : q.1.now ≡ p.1.now = search rules in
          let still : q.0.now ≡ p.0.now = search rules in (
            value ∙ ap (λ l. is_met p.0.now (slice_index l k)) same.0
                ∙ ap (λ t. is_met t (slice_index items k)) same.1,
            (kept ∙ same.0, still ∙ same.1),
          ))
          _ _ _ (refl, refl) asked in
          told.0 ∙ map_of_span test items
          ∙ ap (λ l. map test l) c.as_slice-items.ensures) c.collect_bool.ensures.answered;
      refused = c.collect_bool.ensures.fresh.refused;
    }
