use Rattle.std.proofs.Common.{rules, ◌≡◌, ℕ, ◌+◌, ◌-◌, ◌^◌, ◌<◌, inl, inr, not, length}
use Rattle.std.proofs.Common.{get_or, slice_set, refl, sym, ap, ◌∙◌, arith}
use Rattle.std.specs.Int.{trailing_zeros, w64}
use Rattle.std.proofs.lemmas.Bool.{false≢true, not-true}
use Rattle.std.proofs.lemmas.List.{drop-set-lt, get_or-set_same, get_or-set_other}
use Rattle.std.proofs.lemmas.Nat.{and_le_l}
use Rattle.vb_bits.specs.Digits.{has_bit}
use Rattle.vb_take.proofs.ValueBlocksLemmas.{low_not, lowest_has, left_gone}
use Rattle.vb_walk.proofs.OnesLemmas.{lowest_below}
use Rattle.vb_take.proofs.ItemsLemmas.{left_before}
use Rattle.vb_take.proofs.take_values.put_zeros.Goals as goal

pub loop-left-init : goal.loop-left-init
loop-left-init g c =
    let word : ℕ = c.args.word in
    let left : ℕ = c.low_digits-left.result in
    let n : ℕ = c.args.n in
    let fits : word < 2 ^ 64 = omega arith in
    let others = λ (k : ℕ) (h : k < n).
    low_not word left n k fits c.requires.few h c.low_digits-left.ensures.digits in
    record {
      put = λ k h off gone.
          absurd (false≢true (sym gone ∙ others k h ∙ ap not off));
      kept = λ i h on. refl;
      behind = refl;
      clear = c.low_digits-left.ensures.clear;
      zeros = λ k h on.
          not-true (has_bit word k) (sym (others k h) ∙ on);
    }

pub bounds-out-at : goal.bounds-out-at
bounds-out-at g c =
    let left : ℕ = c.loop-left.left in
    let some : 0 < left = omega (arith, c.loop-left-test.true) in
    let inside = lowest_below c.args.n left some c.loop-left.invariant.clear c.requires.few in
    omega (arith, inside, c.requires.room, c.loop-left.auto.out)

pub overflow_add-at : goal.overflow_add-at
overflow_add-at g c =
    let left : ℕ = c.loop-left.left in
    let some : 0 < left = omega (arith, c.loop-left-test.true) in
    let inside = lowest_below c.args.n left some c.loop-left.invariant.clear c.requires.few in
    omega (arith, inside, c.requires.room, c.loop-left.auto.out)

pub offset_bounds-out-at : goal.offset_bounds-out-at
offset_bounds-out-at g c =
    let left : ℕ = c.loop-left.left in
    let some : 0 < left = omega (arith, c.loop-left-test.true) in
    let inside = lowest_below c.args.n left some c.loop-left.invariant.clear c.requires.few in
    let room : c.args.at + trailing_zeros w64 left < length c.loop-left.out =
    omega (arith, inside, c.requires.room, c.loop-left.auto.out) in
    search rules

pub loop-left-preserved : goal.loop-left-preserved
loop-left-preserved g c =
    let zero = g.T.Element.zero in
    let word : ℕ = c.args.word in
    let left : ℕ = c.loop-left.left in
    let a : ℕ = c.args.at in
    let n : ℕ = c.args.n in
    let out = c.loop-left.out in
    let inv = c.loop-left.invariant in
    let low : ℕ = trailing_zeros w64 left in
    let p : ℕ = a + low in
    let value = c.zero.result in
    let some : 0 < left = omega (arith, c.loop-left-test.true) in
    let fits : left < 2 ^ 64 = omega arith in
    let inside : low < n = lowest_below n left some inv.clear c.requires.few in
    let room : p < length out = omega (arith, inside, c.requires.room, c.loop-left.auto.out) in
    let here = lowest_has left some fits in
    record {
      put = λ k h off gone. elim (left_gone left some fits k gone) [
        | inl same ↦
            ap (λ j. get_or (slice_set out p value) (a + j) zero) same
            ∙ get_or-set_same out p value zero room ∙ c.zero.ensures.value
        | inr was ↦
            get_or-set_other out p (a + k) value zero (λ e.
            let same : k ≡ low = omega arith in
            absurd (false≢true (sym was ∙ ap (has_bit left) same ∙ here)))
            ∙ inv.put k h off was
      ];
      kept = λ i h on.
          get_or-set_other out p i value zero (λ e.
          let place : i - a ≡ low = omega arith in
          absurd (false≢true (sym (inv.zeros low inside here)
          ∙ ap (has_bit word) (sym place) ∙ on (omega arith))))
          ∙ inv.kept i h on;
      behind = drop-set-lt (a + n) out p value (omega arith) ∙ inv.behind;
      clear = omega (arith, and_le_l left (left - 1), inv.clear);
      zeros = λ k h on. inv.zeros k h (left_before left k on);
    }
