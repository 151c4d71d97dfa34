-- Sums in the whole-number types, step by step.
use Rattle.std.proofs.Common.{◌≡◌, ℕ, ◌+◌, ◌%◌, ◌^◌, ◌<◌, ℤ, pos, ◌+ℤ◌, Result, Ok, Err, ap, subst}
use Rattle.std.proofs.Common.{refl, ◌∙◌, arith, FitsSigned}
use Rattle.std.specs.Int.{Width, int_wrapping_add}
use Rattle.std.specs.Result.{OkIff, result_ok}
use Rattle.std.proofs.Math.Nat.{mod-eq_of_lt}
use Rattle.std.proofs.lemmas.Int.{ints, wrapping_add_is, int_wrap_fits}
use borrow.Author.Differences.{fits_in}
use mir.Val.{hbits}
use Rattle.vb_aggregate.specs.Sums.{Within, IsValueOf}

-- a value is no further from 0 than its type reaches
pub near_unsigned : (n x : ℕ) → x < n → Within n (pos x)
near_unsigned n x fits = record { above = omega (arith, ints); below = omega (arith, ints) }

pub near_signed : (w : Width) (x : ℤ) → FitsSigned w x → Within (2 ^ hbits w) x
near_signed w x fits = record {
  above = omega (arith, ints, fits_in, fits);
  below = omega (arith, ints, fits_in, fits);
}

-- a sum of unsigned numbers that is too near to 0 to wrap around
pub added_unsigned : (m a b s v x : ℕ) → v ≡ x → Within a (pos s) → Within b (pos x) → a + b < m
    → pos ((s + v) % m) ≡ pos s +ℤ pos x
added_unsigned m a b s v x is near close small =
    let below : s + x < m = omega (arith, ints, near.below, close.below, small) in
    ap (λ y. pos ((s + y) % m)) is ∙ ap pos (mod-eq_of_lt below)

-- and of signed ones
pub added_signed : (w : Width) (a b : ℕ) (s v x : ℤ) → v ≡ x → FitsSigned w s → FitsSigned w x
    → Within a s → Within b x → a + b < 2 ^ hbits w → int_wrapping_add w s v ≡ s +ℤ x
added_signed w a b s v x is fits fits_too near close small =
    let sum : FitsSigned w (s +ℤ x) =
    omega (arith, ints, fits_in, near.above, near.below, close.above, close.below, small) in
    ap (int_wrapping_add w s) is ∙ wrapping_add_is w s x fits fits_too
    ∙ int_wrap_fits w (s +ℤ x) sum

-- a number near enough to 0 fits in a type
pub fits_near : (w : Width) (a : ℕ) (x : ℤ) → Within a x → a < 2 ^ hbits w → FitsSigned w x
fits_near w a x near small = omega (arith, ints, fits_in, near.above, near.below, small)

-- a conversion that fails exactly if the type has no such number
narrowed : {T E : Type 0} (is_in_type : T → Type 0) (number : T → ℤ) (z : ℤ) (x : T)
    (r : Result T E) → OkIff r (is_in_type x) x → number x ≡ z
    → ((y : T) → number y ≡ z → y ≡ x) → IsValueOf is_in_type number z (result_ok r)
narrowed is_in_type number z x (Ok v) fits is one = ap number fits.1 ∙ is
narrowed is_in_type number z x (Err e) none is one =
    λ y in_type same. none (subst is_in_type (one y same) in_type)

-- to an unsigned type
pub narrowed_unsigned : {E : Type 0} (n x : ℕ) (r : Result ℕ E) → OkIff r (x < n) x
    → IsValueOf (λ y. y < n) pos (pos x) (result_ok r)
narrowed_unsigned n x r fits = narrowed (λ y. y < n) pos (pos x) x r fits refl (λ y same. cc)

-- and to a signed one
pub narrowed_signed : {E : Type 0} (w : Width) (x : ℤ) (r : Result ℤ E)
    → OkIff r (FitsSigned w x) x → IsValueOf (FitsSigned w) (λ y. y) x (result_ok r)
narrowed_signed w x r fits = narrowed (FitsSigned w) (λ y. y) x x r fits refl (λ y same. same)
