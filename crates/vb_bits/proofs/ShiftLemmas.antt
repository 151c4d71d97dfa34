-- Shifted and cut numbers, digit by digit.
use Rattle.std.proofs.Common.{◌≡◌, ℕ, ◌+◌, ◌-◌, ◌*◌, ◌/◌, ◌%◌, ◌^◌, ◌<◌, ◌≤◌, eqb, sym, ap, ◌∙◌}
use Rattle.std.proofs.Common.{arith, zero-add}
use Rattle.std.specs.Int.{bit_at}
use Rattle.std.proofs.lemmas.Nat.{pow_pos, shr_split, shr-shr}
use Rattle.std.proofs.lemmas.Nat.Bits.{bit_at-zero, bit_at_cat_low, bit_at_cat_high}
use Rattle.vb_bits.specs.Digits.{has_bit, digits}
use Rattle.vb_bits.proofs.DigitsLemmas.{same_digits}

-- a digit of a number shifted down
pub has_bit_shr : (w s i : ℕ) → has_bit (w / 2 ^ s) i ≡ has_bit w (s + i)
has_bit_shr w s i = ap (λ y. eqb (y % 2) 1) (shr-shr w s i)

-- the digits of a number shifted up, below the shift and from it on
pub shl_low : (x k i : ℕ) → i < k → bit_at (x * 2 ^ k) i ≡ 0
shl_low x k i l = let e : x * 2 ^ k + 0 ≡ x * 2 ^ k = omega arith in
    ap (λ y. bit_at y i) (sym e) ∙ bit_at_cat_low x k 0 i l ∙ bit_at-zero i

pub shl_high : (x k i : ℕ) → k ≤ i → bit_at (x * 2 ^ k) i ≡ bit_at x (i - k)
shl_high x k i l = let e : x * 2 ^ k + 0 ≡ x * 2 ^ k = omega arith in
    ap (λ y. bit_at y i) (sym e) ∙ bit_at_cat_high x k 0 i (pow_pos k) l

-- a digit below a cut
pub bit_at_cut : (n k i : ℕ) → i < k → bit_at (n % 2 ^ k) i ≡ bit_at n i
bit_at_cut n k i l =
    sym (bit_at_cat_low (n / 2 ^ k) k (n % 2 ^ k) i l) ∙ ap (λ x. bit_at x i) (shr_split n k)

-- the digits of a number shifted down
pub digits_shr : (w s n : ℕ) → digits (w / 2 ^ s) 0 n ≡ digits w s n
digits_shr w s n = same_digits (w / 2 ^ s) w 0 s n
    (λ i l. has_bit_shr w s (0 + i) ∙ ap (λ j. has_bit w (s + j)) (zero-add i))
