-- A word with one more digit.
use Rattle.std.proofs.Common.{◌≡◌, ℕ, ◌+◌, ◌*◌, ◌%◌, ◌^◌, ◌<◌, Bool, true, false, [], ◌∷◌, ◌++◌}
use Rattle.std.proofs.Common.{eqb, sym, ap, ◌∙◌, arith, zero-add}
use mir.Val.{bool_byte}
use Rattle.std.specs.Int.{w64}
use Rattle.std.specs.Int.Bits.{bit_or, or_zero_r}
use Rattle.std.proofs.lemmas.Nat.{or_lt, one_shl, pow_below}
use Rattle.std.proofs.lemmas.Nat.Bits.{bit_at_above, bit_at_set_same, bit_at_set_other}
use Rattle.vb_bits.specs.Digits.{has_bit, digits}
use Rattle.vb_bits.proofs.DigitsLemmas.{digits-add, same_digits}

-- the word p with the value b as its digit i
abbrev pub with_digit : ℕ → ℕ → Bool → ℕ
with_digit p i b = bit_or p (bool_byte b * 2 ^ i % 2 ^ 64)

-- a false digit changes nothing
with_false : (p i : ℕ) → with_digit p i false ≡ p
with_false p i =
    let none : 0 * 2 ^ i ≡ 0 = omega arith in
    ap (λ x. bit_or p (x % 2 ^ 64)) none ∙ or_zero_r p

pub digit_other : (p i : ℕ) (b : Bool) (j : ℕ)
    → i < 64 → j < i → has_bit (with_digit p i b) j ≡ has_bit p j
digit_other p i true j within h =
    ap (λ x. eqb x 1) (bit_at_set_other w64 p i within j (omega arith))
digit_other p i false j within h = ap (λ x. has_bit x j) (with_false p i)

pub digit_same : (p i : ℕ) (b : Bool) → i < 64 → p < 2 ^ i → has_bit (with_digit p i b) i ≡ b
digit_same p i true within small = ap (λ x. eqb x 1) (bit_at_set_same w64 p i within)
digit_same p i false within small = ap (λ x. has_bit x i) (with_false p i)
    ∙ ap (λ x. eqb x 1) (bit_at_above p i i small (omega arith))

-- the word has no digit above the new one
pub packed_below : (p i : ℕ) (b : Bool) → i < 64 → p < 2 ^ i → with_digit p i b < 2 ^ (i + 1)
packed_below p i true within small =
    let one : bool_byte true * 2 ^ i % 2 ^ 64 ≡ 2 ^ i = one_shl i 64 within in
    let more : 2 ^ i < 2 ^ (i + 1) = pow_below i (i + 1) (omega arith) in
    or_lt (i + 1) p (bool_byte true * 2 ^ i % 2 ^ 64) (omega arith) (omega arith)
packed_below p i false within small =
    let more : 2 ^ i < 2 ^ (i + 1) = pow_below i (i + 1) (omega arith) in
    rw with_false (omega arith)

-- its digits are the old ones and the new one
pub digits_packed : (p i : ℕ) (b : Bool)
    → i < 64 → p < 2 ^ i → digits (with_digit p i b) 0 (i + 1) ≡ digits p 0 i ++ b ∷ []
unfolding digits
digits_packed p i b within small =
    digits-add (with_digit p i b) 0 i 1
    ∙ ap (λ l. l ++ digits (with_digit p i b) (0 + i) 1)
    (same_digits (with_digit p i b) p 0 0 i (λ j h. ap (has_bit (with_digit p i b)) (zero-add j)
    ∙ digit_other p i b j within h ∙ ap (has_bit p) (sym (zero-add j))))
    ∙ ap (λ x. digits p 0 i ++ x ∷ []) (ap (has_bit (with_digit p i b)) (zero-add i)
    ∙ digit_same p i b within small)
