-- The results of the closure for the values, in order.
use Rattle.std.proofs.Common.{rules, ◌/◌, ℕ, map, sym, ap, subst, ◌∙◌}
use Rattle.std.proofs.lemmas.Result.{IfOk-weaker}
use Rattle.std.proofs.lemmas.Simd.{map-map}
use Rattle.std.specs.Iterator.Runs.{ItemsMapTo}
use Rattle.std.specs.Slice.Iter.{iter_rest}
use Rattle.vortex_buffer.proofs.CountedItems.{counted_run, run_gives_all}
use Rattle.use_columns.proofs.sequences.halved.Goals as goal

pub returns : goal.returns
returns g c =
    let made = c.from_trusted_len_iter.ensures.made in
    let values = c.args.values.now in
    let half = λ (value : ℕ). value / 2 in
    record {
      ok = IfOk-weaker c.from_trusted_len_iter.result _ _ (λ b found.
          let run = counted_run _ c.trusted_len-halves.result found.0 found.1 in
          let start = run.1 ∙ c.trusted_len-halves.ensures.iter in
          let mapped = c.map.ensures.runs run.0 run.4 start in
          let all = mapped.0 in
          let len = sym mapped.2.1 ∙ run.3 ∙ c.trusted_len-halves.ensures.left in
          let front =
          subst (λ l. ItemsMapTo all (λ y. y.now) l) (ap iter_rest mapped.1 ∙ c.iter.ensures.rest)
          (c.iter.ensures.runs all all.seen) in
          found.2.list ∙ sym run.2 ∙ mapped.2.3 (λ y. y.now / 2) (search rules)
          ∙ sym (map-map half (λ y. y.now) all.items)
          ∙ ap (map half) (run_gives_all all (λ y. y.now) values front len)) made.ok;
      refused = made.refused;
    }
