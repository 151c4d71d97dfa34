-- The results of the closure for the pairs, in order.
use Rattle.std.proofs.Common.{rules, ◌≡◌, length, map, max, sym, ap, subst, ◌∙◌}
use Rattle.std.proofs.lemmas.Result.{IfOk-weaker}
use Rattle.std.proofs.lemmas.Simd.{map-map}
use Rattle.std.specs.Iterator.Runs.{ItemsMapTo}
use Rattle.std.specs.Slice.Iter.{iter_rest}
use Rattle.vortex_buffer.proofs.CountedItems.{counted_run, run_gives_all}
use Rattle.use_columns.specs.Sequences.{greater_of}
use Rattle.use_columns.proofs.GreaterLemmas.{greater_of-map}
use Rattle.use_columns.proofs.sequences.greater.Goals as goal

pub returns : goal.returns
returns g c =
    let made = c.from_trusted_len_iter.ensures.made in
    let left = c.args.left.now in
    let right = c.args.right.now in
    record {
      ok = IfOk-weaker c.from_trusted_len_iter.result _ _ (λ b found.
          let run = counted_run _ c.trusted_len.result found.0 found.1 in
          let start = run.1 ∙ c.trusted_len.ensures.iter in
          let mapped = c.map-pairs.ensures.runs run.0 run.4 start in
          let pairs = mapped.0 in
          let zipped = c.zip.ensures.runs pairs pairs.seen mapped.1 in
          let ones = zipped.0 in
          let others = zipped.2.0 in
          let len : pairs.len ≡ length left =
          sym mapped.2.1 ∙ run.3 ∙ c.trusted_len.ensures.left in
          let ones_front =
          subst (λ l. ItemsMapTo ones (λ y. y.now) l) (ap iter_rest zipped.1 ∙ c.iter.ensures.rest)
          (c.iter.ensures.runs ones ones.seen) in
          let others_front =
          subst (λ l. ItemsMapTo others (λ y. y.now) l)
          (ap iter_rest zipped.2.1 ∙ c.zip.ensures.second.0)
          (c.iter.ensures.runs others others.seen) in
          let of_left : map (λ p. p.0.now) pairs.items ≡ left =
          sym (map-map (λ y. y.now) (λ p. p.0) pairs.items)
          ∙ ap (map (λ y. y.now)) (sym zipped.2.2.0.1)
          ∙ run_gives_all ones (λ y. y.now) left ones_front (zipped.2.2.0.0 ∙ len) in
          let of_right : map (λ p. p.1.now) pairs.items ≡ right =
          sym (map-map (λ y. y.now) (λ p. p.1) pairs.items)
          ∙ ap (map (λ y. y.now)) (sym zipped.2.2.1.1)
          ∙ run_gives_all others (λ y. y.now) right others_front
          (zipped.2.2.1.0 ∙ len ∙ c.requires) in
          found.2.list ∙ sym run.2 ∙ mapped.2.3 (λ p. max p.0.now p.1.now) (search rules)
          ∙ sym (greater_of-map (λ p. p.0.now) (λ p. p.1.now) pairs.items)
          ∙ ap (λ l. greater_of l (map (λ p. p.1.now) pairs.items)) of_left
          ∙ ap (greater_of left) of_right) made.ok;
      refused = made.refused;
    }
