use Rattle.std.proofs.Common.{inl, inr, arith}
use Rattle.std.proofs.lemmas.Bool.{cases_lt}
use Rattle.vb_walk.specs.Walks.{bits_ahead}
use Rattle.vb_walk.proofs.TakenRunLemmas.{clash, end_within, ones_in_hand, TakesRun-here}
use Rattle.vb_walk.proofs.TakenRunLemmas.{TakesRun-far}
use Rattle.vb_walk.proofs.slices.take_run.Goals as goal
use Rattle.vb_walk.proofs.slices.take_run.Goals.{then-end-cursor-via-then-end-cursor}
use Rattle.vb_walk.proofs.slices.take_run.Goals.{
  then-end-cursor-via-else-end-cursor+then-not-has_more,
}

pub overflow_add-start : goal.overflow_add-start
overflow_add-start c =
    let run = c.lowest_run-run in let v = c.requires.valid in
    omega (
      arith,
      v.fits,
      run.ensures.some,
      end_within c.args.bytes.now
          c.args.cursor _ _ _ v run.ensures.some run.ensures.below run.ensures.cut,
    )

pub overflow_add-end : goal.overflow_add-end
overflow_add-end c =
    let run = c.lowest_run-run in let v = c.requires.valid in
    omega (
      arith,
      v.fits,
      end_within
          c.args.bytes.now c.args.cursor _ _ _ v run.ensures.some run.ensures.below run.ensures.cut,
    )

pub returns-then-end-cursor : goal.returns-then-end-cursor
returns-then-end-cursor c =
    let run = c.lowest_run-run in
    TakesRun-here c.args.bytes.now c.args.cursor run.result.start run.result.end
    run.result.rest c.requires.valid run.ensures.some run.ensures.below run.ensures.cut
    (elim c.then-end-cursor.branch [
      | then-end-cursor-via-then-end-cursor w ↦ inl w.if-end-cursor.true
      | then-end-cursor-via-else-end-cursor+then-not-has_more w ↦
          elim (cases_lt 0 (bits_ahead c.args.cursor)) [
            | inl more ↦
                absurd (clash w.has_more.result (w.has_more.ensures.1 more) w.if-not-has_more.true)
            | inr none ↦ inr (omega arith)
          ]
    ])

pub overflow_add-result : goal.overflow_add-result
overflow_add-result c =
    let v = c.refill-far.ensures.valid in
    omega (
      arith,
      v.fits,
      ones_in_hand c.args.bytes.now c.refill-far.result
          c.lowest_ones-ones.result.0 c.lowest_ones-ones.result.1 v c.lowest_ones-ones.ensures.cut,
    )

pub returns : goal.returns
returns c =
    let run = c.lowest_run-run in let ones = c.lowest_ones-ones in
    TakesRun-far c.args.bytes.now c.args.cursor run.result.start run.result.end
    run.result.rest c.requires.valid run.ensures.some run.ensures.below run.ensures.cut
    c.refill-far.result ones.result.0
    ones.result.1 c.if-end-cursor.false c.refill-far.ensures ones.ensures.few ones.ensures.cut
