-- Bits that a mask selects, in parts.
use Rattle.std.proofs.Common.{◌≡◌, inl, inr, ℕ, ◌+◌, ◌*◌, ◌%◌, ◌^◌, ◌<◌, ◌≤◌, Bool, false, List}
use Rattle.std.proofs.Common.{◌++◌, length, sym, ap, subst, ◌∙◌, arith, zero-add}
use Rattle.std.specs.Int.Bits.{bit_or, or_shifted_r}
use Rattle.std.specs.Simd.Lanes.{mask_l}
use Rattle.std.proofs.Math.Pow.{pow_mono}
use Rattle.std.proofs.lemmas.Bool.{cases_lt}
use Rattle.std.proofs.lemmas.Nat.{shl_whole}
use Rattle.std.proofs.lemmas.Simd.{mask_l-lt}
use Rattle.vb_bits.specs.Bits.{count}
use Rattle.vb_bits.specs.Digits.{digits}
use Rattle.vb_bits.specs.Kept.{kept_by}
use Rattle.vb_bits.proofs.BitsLemmas.{count-le}
use Rattle.vb_bits.proofs.DigitsLemmas.{digits-add, length-digits, count-digits_below}
use Rattle.vb_bits.proofs.DigitsLemmas.{count-digits-add}
use Rattle.vb_bits.proofs.KeptLemmas.{kept_by-append, length-kept_by}
use Rattle.vb_pack.proofs.MaskLemmas.{mask_l-append}

-- the selected ones of the k bits of the word from bit a on
abbrev pub kept_digits : ℕ → ℕ → ℕ → ℕ → List Bool
kept_digits mask word a k = kept_by (digits mask a k) (digits word a k)

-- their number is that of the ones of the mask
pub length-kept_digits : (mask word a k : ℕ)
    → length (kept_digits mask word a k) ≡ count (digits mask a k)
length-kept_digits mask word a k =
    length-kept_by false (digits mask a k) (digits word a k)
    (length-digits mask a k ∙ sym (length-digits word a k))

-- the selected bits of two neighbouring parts
pub kept_digits-add : (mask word a m n : ℕ)
    → kept_digits mask word a (m + n) ≡ kept_digits mask word a m ++ kept_digits mask word (a + m) n
kept_digits-add mask word a m n =
    ap (λ l. kept_by l (digits word a (m + n))) (digits-add mask a m n)
    ∙ ap (kept_by (digits mask a m ++ digits mask (a + m) n)) (digits-add word a m n)
    ∙ kept_by-append (digits mask a m) (digits mask (a + m) n) (digits word a m)
    (digits word (a + m) n) (length-digits mask a m ∙ sym (length-digits word a m))

-- a word of 64 bits has at most 64 ones
ones_few : (mask m : ℕ) → mask < 2 ^ 64 → count (digits mask 0 m) ≤ 64
ones_few mask m fits = elim (cases_lt 64 m) [
  | inl past ↦
      let up : 64 ≤ m = omega arith in
      let more : 2 ^ 64 ≤ 2 ^ m = pow_mono up in
      let wide : mask < 2 ^ m = omega arith in
      omega (
        arith,
        count-digits_below mask m wide,
        count-digits_below mask 64 fits,
        count-le (digits mask 0 64),
        length-digits mask 0 64,
      )
  | inr few ↦ omega (arith, count-le (digits mask 0 m), length-digits mask 0 m)
]

-- k bits after the first a
pub packed-more : (mask word n a k : ℕ) → mask < 2 ^ 64
    → n ≡ count (digits mask 0 a)
    → bit_or (mask_l (kept_digits mask word 0 a))
    (mask_l (kept_digits mask word a k) * 2 ^ n % 2 ^ 64)
    ≡ mask_l (kept_digits mask word 0 (a + k))
packed-more mask word n a k fits many =
    let front : List Bool = kept_digits mask word 0 a in
    let more : List Bool = kept_digits mask word a k in
    let len : length front ≡ n = length-kept_digits mask word 0 a ∙ sym many in
    let low : mask_l front < 2 ^ n = subst (λ x. mask_l front < 2 ^ x) len (mask_l-lt front) in
    let place : 0 + a ≡ a = zero-add a in
    let within : length more + n ≤ 64 = omega (
      arith,
      length-kept_digits mask word a k,
      ones_few mask (a + k) fits,
      count-digits-add mask 0 a k,
      ap (λ x. count (digits mask x k)) place,
      many,
    ) in
    let whole : mask_l more * 2 ^ n % 2 ^ 64 ≡ mask_l more * 2 ^ n =
    shl_whole (mask_l more) (length more) n 64 (mask_l-lt more) within in
    let joined : mask_l (front ++ more) ≡ mask_l front + 2 ^ n * mask_l more =
    mask_l-append front more ∙ ap (λ x. mask_l front + 2 ^ x * mask_l more) len in
    let turned : mask_l more * 2 ^ n + mask_l front ≡ mask_l front + 2 ^ n * mask_l more =
    omega arith in
    ap (bit_or (mask_l front)) whole ∙ or_shifted_r (mask_l more) n (mask_l front) low
    ∙ turned ∙ sym joined
    ∙ ap (λ x. mask_l (front ++ kept_digits mask word x k)) (sym place)
    ∙ ap mask_l (sym (kept_digits-add mask word 0 a k))
