-- Values that are added to a total and taken back. This is a spec since the laws of additions cite
-- its lemmas.
use Rattle.std.proofs.Common.{◌≡◌, ℕ, ◌+◌, ◌-◌, ◌%◌, ◌^◌, ◌<◌, ℤ, pos, ◌+ℤ◌, ap, sym, ◌∙◌}
use Rattle.std.proofs.Common.{arith}
use Rattle.std.specs.Prelude.{◌-ℤ◌}
use Rattle.std.proofs.Math.Nat.{mod-eq_of_lt}
use Rattle.std.proofs.lemmas.Int.{ints}
use Rattle.std.specs.Int.{w64}
use Rattle.vb_aggregate.specs.Wraps.{wrap_unsigned}

-- 1 is added to a count, and taken back
pub count_undone : (count : ℕ) → count < 2 ^ 64
    → ((count + 1) % 2 ^ 64 + (2 ^ 64 - 1)) % 2 ^ 64 ≡ count
count_undone count inside = omega (arith, inside)

-- in either order
pub count_commutes : (count : ℕ) → ((count + 1) % 2 ^ 64 + (2 ^ 64 - 1)) % 2 ^ 64
    ≡ ((count + (2 ^ 64 - 1)) % 2 ^ 64 + 1) % 2 ^ 64
count_commutes count = omega arith

module _ {T : Type 0} (number : T → ℤ) (wrapped : ℤ → T)
    (wraps_each : (a b : ℤ) → wrapped (number (wrapped a) +ℤ b) ≡ wrapped (a +ℤ b)) where
  -- a number is taken from a sum that was wrapped around
  wraps_less : (a b : ℤ) → wrapped (number (wrapped a) -ℤ b) ≡ wrapped (a -ℤ b)
  wraps_less a b =
      let less : ℤ = pos 0 -ℤ b in
      let one : number (wrapped a) -ℤ b ≡ number (wrapped a) +ℤ less = omega (arith, ints) in
      let two : a +ℤ less ≡ a -ℤ b = omega (arith, ints) in
      ap wrapped one ∙ wraps_each a less ∙ ap wrapped two

  -- a number is added to a sum, and taken back
  pub sum_undone : (sum : T) (value : ℤ) → wrapped (number sum) ≡ sum
      → wrapped (number (wrapped (number sum +ℤ value)) -ℤ value) ≡ sum
  sum_undone sum value own =
      let same : number sum +ℤ value -ℤ value ≡ number sum = omega (arith, ints) in
      wraps_less (number sum +ℤ value) value ∙ ap wrapped same ∙ own

  -- in either order
  pub sum_commutes : (sum : T) (value back : ℤ)
      → wrapped (number (wrapped (number sum +ℤ value)) -ℤ back)
      ≡ wrapped (number (wrapped (number sum -ℤ back)) +ℤ value)
  sum_commutes sum value back =
      let same : number sum +ℤ value -ℤ back ≡ number sum -ℤ back +ℤ value = omega (arith, ints) in
      wraps_less (number sum +ℤ value) back ∙ ap wrapped same
      ∙ sym (wraps_each (number sum -ℤ back) value)

-- a number of 64 bits doesn't wrap around
pub unsigned_own : (value : ℕ) → value < 2 ^ 64 → wrap_unsigned w64 (pos value) ≡ value
unsigned_own value inside = mod-eq_of_lt inside
