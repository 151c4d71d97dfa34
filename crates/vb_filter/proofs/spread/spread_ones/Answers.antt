use Rattle.std.proofs.Common.{◌≡◌, ℕ, ◌+◌, ◌-◌, ◌/◌, ◌^◌, ◌<◌, eqb, sym, ap, subst, ◌∙◌, arith}
use Rattle.std.proofs.Math.Bool.{and-true}
use Rattle.std.specs.Int.{trailing_zeros, w64}
use Rattle.std.specs.Int.Bits.{bit_and}
use Rattle.std.proofs.lemmas.Nat.{and_le_r}
use Rattle.std.proofs.lemmas.Nat.Bits.{bit_at-trailing_zeros}
use Rattle.vb_bits.specs.Digits.{has_bit}
use Rattle.vb_bits.proofs.DigitsLemmas.{has_bit-and}
use Rattle.vb_walk.proofs.OnesLemmas.{lowest_below, lowest_off}
use Rattle.vb_filter.proofs.PendingLemmas.{joined}
use Rattle.vb_filter.proofs.SpreadDigits.{SpreadSoFar, spread_first, spread_more, spread_last}
use Rattle.vb_filter.proofs.spread.spread_ones.Goals as goal

pub loop-left-init : goal.loop-left-init
loop-left-init c = record { digits = spread_first c.args.mask c.args.word }

pub loop-left-preserved : goal.loop-left-preserved
loop-left-preserved c =
    let left : ℕ = c.loop-left.left in
    let source : ℕ = c.loop-left.source in
    let spread : ℕ = c.loop-left.spread in
    let some : 0 < left = omega (arith, c.loop-left-test.true) in
    let fits : left < 2 ^ 64 = omega arith in
    let a : ℕ = trailing_zeros w64 left in
    let v : ℕ = bit_and source 1 in
    let rest : ℕ = bit_and left (left - 1) in
    let low = bit_at-trailing_zeros w64 left some fits in
    let off = lowest_off left a low.1 low.2 in
    let one : a + 1 - a ≡ 1 = omega arith in
    let small : v < 2 ^ 1 = omega (arith, and_le_r source 1) in
    let first : has_bit v 0 ≡ has_bit source 0 =
    has_bit-and source 1 0 ∙ and-true (has_bit source 0) in
    record {
      digits = subst (λ k. SpreadSoFar (joined spread v a) rest (source / 2 ^ k) c.args.mask
          c.args.word) one
          (spread_more spread left source c.args.mask c.args.word v a (a + 1) rest
          c.loop-left.invariant.digits (omega arith)
          (λ i h. ap (λ x. eqb x 1) (low.2 i h))
          (λ i lo hi.
          let here : i ≡ a = omega arith in ap (has_bit left) here ∙ ap (λ x. eqb x 1) low.1)
          (λ i h. ap (λ x. eqb x 1) (off.0 i (omega arith)))
          (λ i lo hi. ap (λ x. eqb x 1) (off.1 i (omega arith)))
          (subst (λ k. v < 2 ^ k) (sym one) small)
          (λ j h.
          let here : j ≡ 0 = omega arith in
          ap (has_bit v) here ∙ first ∙ ap (has_bit source) (sym here)));
    }

pub overflow_shl-spread : goal.overflow_shl-spread
overflow_shl-spread c =
    let left : ℕ = c.loop-left.left in
    let some : 0 < left = omega (arith, c.loop-left-test.true) in
    let fits : left < 2 ^ 64 = omega arith in
    lowest_below 64 left some fits (omega arith)

pub returns : goal.returns
returns c =
    spread_last c.loop-left.spread c.loop-left.left c.loop-left.source c.args.mask c.args.word
    (omega (arith, c.loop-left-test.false)) c.loop-left.invariant.digits
