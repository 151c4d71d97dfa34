use Rattle.std.proofs.Common.{◌≡◌, inl, inr, ℕ, ◌+◌, ◌-◌, ◌/◌, ◌^◌, true, false, sym, ap}
use Rattle.std.proofs.Common.{subst, ◌∙◌, arith}
use Rattle.std.proofs.lemmas.Bool.{cases_lt}
use Rattle.std.proofs.lemmas.Nat.{shr-shr}
use Rattle.vb_bits.specs.Digits.{has_bit}
use Rattle.vb_filter.proofs.PendingLemmas.{joined}
use Rattle.vb_filter.proofs.SpreadDigits.{SpreadSoFar, spread_first, spread_more, spread_last}
use Rattle.vb_filter.proofs.SpreadDigits.{same_digit}
use Rattle.vb_filter.proofs.spread.spread_runs.Goals as goal

pub loop-left-init : goal.loop-left-init
loop-left-init c = record { digits = spread_first c.args.mask c.args.word }

pub loop-left-preserved : goal.loop-left-preserved
loop-left-preserved c =
    let source : ℕ = c.loop-left.source in
    let run = c.lowest_run-run.ensures in
    let a : ℕ = c.lowest_run-run.result.start in
    let b : ℕ = c.lowest_run-run.result.end in
    let rest : ℕ = c.lowest_run-run.result.rest in
    let v : ℕ = c.low_digits.result in
    let one : 1 + (b - a - 1) ≡ b - a = omega (arith, run.some) in
    let shifted : source / 2 / 2 ^ (b - a - 1) ≡ source / 2 ^ (b - a) =
    shr-shr source 1 (b - a - 1) ∙ ap (λ k. source / 2 ^ k) one in
    record {
      digits = subst (λ s. SpreadSoFar (joined c.loop-left.spread v a) rest s c.args.mask
          c.args.word) (sym shifted)
          (spread_more c.loop-left.spread c.loop-left.left source c.args.mask c.args.word v a b rest
          c.loop-left.invariant.digits run.some run.below run.cut.ones run.cut.gone run.cut.kept
          c.low_digits.ensures.clear
          (λ j h. same_digit v source (b - a) j c.low_digits.ensures.digits h));
    }

pub loop-left-smaller : goal.loop-left-smaller
loop-left-smaller c =
    let left : ℕ = c.loop-left.left in
    let run = c.lowest_run-run.ensures in
    let a : ℕ = c.lowest_run-run.result.start in
    let rest : ℕ = c.lowest_run-run.result.rest in
    elim (cases_lt rest left) [
      | inl less ↦ less
      | inr more ↦
          let same : rest ≡ left = omega (arith, run.cut.fewer) in
          let on : has_bit left a ≡ true = run.cut.ones a (omega arith) run.some in
          let off : has_bit rest a ≡ false = run.cut.gone a run.some in
          let both : true ≡ false = sym on ∙ ap (λ x. has_bit x a) (sym same) ∙ off in
          cc
    ]

pub returns : goal.returns
returns c =
    spread_last c.loop-left.spread c.loop-left.left c.loop-left.source c.args.mask c.args.word
    (omega (arith, c.loop-left-test.false)) c.loop-left.invariant.digits
