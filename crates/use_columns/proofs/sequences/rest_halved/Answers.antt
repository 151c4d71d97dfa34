-- The results of the closure for the values that are not skipped, in order.
use Rattle.std.proofs.Common.{rules, ◌/◌, ℕ, map, drop, sym, ap, subst, ◌∙◌}
use Rattle.std.proofs.lemmas.Result.{IfOk-weaker}
use Rattle.std.proofs.lemmas.Simd.{map-map}
use Rattle.std.specs.Iterator.Runs.{ItemsMapTo}
use Rattle.std.specs.Slice.Iter.{iter_rest}
use Rattle.vortex_buffer.proofs.CountedItems.{counted_run, run_gives_rest}
use Rattle.use_columns.proofs.sequences.rest_halved.Goals as goal

pub returns : goal.returns
returns g c =
    let made = c.from_trusted_len_iter.ensures.made in
    let values = c.args.values.now in
    let n = c.args.n in
    let half = λ (value : ℕ). value / 2 in
    record {
      ok = IfOk-weaker c.from_trusted_len_iter.result _ _ (λ b found.
          let run = counted_run _ c.trusted_len-halves.result found.0 found.1 in
          let start = run.1 ∙ c.trusted_len-halves.ensures.iter in
          let mapped = c.map.ensures.runs run.0 run.4 start in
          let skipped = c.skip.ensures.runs mapped.0 mapped.0.seen mapped.1 in
          let all = skipped.0 in
          let len =
          sym skipped.2.1 ∙ sym mapped.2.1 ∙ run.3 ∙ c.trusted_len-halves.ensures.left
          ∙ c.saturating_sub-left.ensures in
          let front =
          subst (λ l. ItemsMapTo all (λ y. y.now) l) (ap iter_rest skipped.1 ∙ c.iter.ensures.rest)
          (c.iter.ensures.runs all all.seen) in
          found.2.list ∙ sym run.2 ∙ mapped.2.3 (λ y. y.now / 2) (search rules)
          ∙ ap (map (λ y. y.now / 2)) skipped.2.2
          ∙ sym (map-map half (λ y. y.now) (drop n all.items))
          ∙ ap (map half) (run_gives_rest all (λ y. y.now) values n front len)) made.ok;
      refused = made.refused;
    }
