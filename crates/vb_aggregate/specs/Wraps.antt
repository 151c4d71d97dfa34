-- Numbers that wrap around at the ends of a type. This is a spec since the laws of `Summand` cite
-- its lemmas.
use Rattle.std.proofs.Common.{◌≡◌, ℕ, ◌^◌, ◌<◌, ℤ, pos, negsuc, ◌+ℤ◌, ap, sym, ◌∙◌, arith}
use Rattle.std.specs.Int.{Width, int_rem_euclid, int_wrap, cast_signed, cast_unsigned}
use Rattle.std.specs.Prelude.{unsigned_abs, FitsSigned}
use Rattle.std.proofs.Math.Nat.{mod-eq_of_lt}
use Rattle.std.proofs.lemmas.Int.{of_z-to_z, int_wrap-add_same, int_wrap_fits}
use Rattle.std.proofs.lemmas.Nat.{pow_pos, mod_below}
use mir.Val.{bits, hbits}

-- the number from 0 to 2^n - 1 that differs from z by a multiple of 2^n, for a width of n bits
abbrev pub wrap_unsigned : Width → ℤ → ℕ
wrap_unsigned w z = unsigned_abs (int_rem_euclid z (pos (2 ^ bits w)))

-- it is less than 2^n
pub wrap_unsigned_fits : (w : Width) (z : ℤ) → wrap_unsigned w z < 2 ^ bits w
wrap_unsigned_fits w (pos a) = mod_below a (2 ^ bits w) (pow_pos (bits w))
wrap_unsigned_fits w (negsuc a) = let some = pow_pos (bits w) in omega arith

-- wrapping the first of two terms around before they are added changes nothing
pub unsigned_wraps_on : (w : Width) (a b : ℤ)
    → wrap_unsigned w (pos (wrap_unsigned w a) +ℤ b) ≡ wrap_unsigned w (a +ℤ b)
unfolding int_wrap
unsigned_wraps_on w a b =
    let u = wrap_unsigned w in
    let small = wrap_unsigned_fits w a in
    let same : int_wrap w (pos (u a)) ≡ int_wrap w a = ap (cast_signed w) (mod-eq_of_lt small) in
    sym (of_z-to_z w (u (pos (u a) +ℤ b)) (wrap_unsigned_fits w _))
    ∙ ap (cast_unsigned w) (int_wrap-add_same w (pos (u a)) a b same)
    ∙ of_z-to_z w (u (a +ℤ b)) (wrap_unsigned_fits w _)

-- 0 fits in each signed type
zero_fits : (w : Width) → FitsSigned w (pos 0)
zero_fits w = record { sfits = pow_pos (hbits w) }

-- 0 wraps around to 0
pub signed_wraps_zero : (w : Width) → int_wrap w (pos 0) ≡ pos 0
signed_wraps_zero w = int_wrap_fits w (pos 0) (zero_fits w)
