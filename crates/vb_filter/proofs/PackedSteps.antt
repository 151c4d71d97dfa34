-- Bits that a mask selects, by one step for each.
use Rattle.std.proofs.Common.{◌≡◌, inl, inr, ℕ, suc, ◌+◌, ◌-◌, ◌*◌, ◌%◌, ◌^◌, ◌<◌, ◌≤◌, eqb, nat_eq}
use Rattle.std.proofs.Common.{Bool, false, [], ◌∷◌, ◌++◌, length, append_assoc}
use Rattle.std.proofs.Common.{sym, ap, subst, ◌∙◌, arith}
use mathlib.Core.Bool.{not}
use Rattle.std.proofs.Math.Nat.{pow-suc}
use Rattle.std.proofs.Math.Pow.{pow_mono}
use Rattle.std.proofs.lemmas.Bool.{cases_lt}
use Rattle.std.proofs.lemmas.Nat.{pow_pos, and_le_l, xor_lt}
use Rattle.std.proofs.lemmas.Nat.Bits.{bit_at_xor, bit_at-pow_same, bit_at-pow_other}
use Rattle.std.proofs.lemmas.Nat.Bits.{bit_at-trailing_zeros, same_from_bits_below}
use Rattle.std.specs.Int.{bit_at, trailing_zeros, w64}
use Rattle.std.specs.Int.Bits.{bit_and, bit_or, bit_xor, or_zero_r}
use Rattle.vb_bits.specs.Bits.{count}
use Rattle.vb_bits.specs.Digits.{digits, has_bit}
use Rattle.vb_bits.proofs.PackedLemmas.{with_digit, digits_packed, packed_below}
use Rattle.vb_walk.proofs.OnesLemmas.{lowest_off}
use Rattle.vb_filter.proofs.PackedDigits.{kept_digits}
use Rattle.vb_filter.proofs.PackedOnes.{kept_digits-zero, kept_digits-first, ones_so_far}
use Rattle.vb_filter.proofs.PackedOnes.{ones_inside}

-- a number with the lowest one alone
pub lowest_alone : (w : ℕ)
    → 0 < w → w < 2 ^ 64 → bit_xor w (bit_and w (w - 1)) ≡ 2 ^ trailing_zeros w64 w
lowest_alone w some fits =
    let t : ℕ = trailing_zeros w64 w in
    let r : ℕ = bit_and w (w - 1) in
    let low = bit_at-trailing_zeros w64 w some fits in
    let without = lowest_off w t low.1 low.2 in
    let within : t < 64 = low.0 in
    let double : 2 ^ suc t ≡ 2 ^ t * 2 = pow-suc 2 t in
    let positive : 0 < 2 ^ t = pow_pos t in
    let most : 2 ^ suc t ≤ 2 ^ 64 = pow_mono within in
    same_from_bits_below 64 (bit_xor w r) (2 ^ t)
    (xor_lt 64 w r fits (omega (arith, and_le_l w (w - 1)))) (omega arith)
    (λ i l. bit_at_xor w r i ∙ elim (cases_lt i t) [
      | inl below ↦ omega (
        arith,
        low.2 i below,
        without.0 i (omega arith),
        bit_at-pow_other t i (λ e. absurd (omega arith)),
      )
      | inr up ↦ elim (cases_lt t i) [
        | inl above ↦ omega (
          arith,
          without.1 i above,
          bit_at-pow_other t i (λ e. absurd (omega arith)),
        )
        | inr down ↦ let here : i ≡ t = omega arith in
            omega (
              arith,
              ap (bit_at w) here,
              low.1,
              without.0 i (omega arith),
              ap (bit_at (2 ^ t)) here,
              bit_at-pow_same t,
            )
      ]
    ])

-- a bit, moved up, is tested for not being 0
pub tested : (b p : ℕ) → b < 2 → 0 < p → not (nat_eq (b * p) 0) ≡ eqb b 1
tested b p few some = elim (cases_lt b 1) [
  | inl none ↦ let e : b ≡ 0 = omega arith in
      let gone : 0 * p ≡ 0 = omega arith in
      subst (λ x. not (nat_eq (x * p) 0) ≡ eqb x 1) (sym e) (ap (λ y. not (nat_eq y 0)) gone)
  | inr one ↦ let e : b ≡ 1 = omega arith in
      subst (λ x. not (nat_eq (x * p) 0) ≡ eqb x 1) (sym e) (grind arith)
]

-- the number of ones that n steps take
abbrev pub ones_taken : ℕ → ℕ → ℕ
ones_taken mask n = n - (n - count (digits mask 0 64))

module _ (word packed n left mask : ℕ) (fits : left < 2 ^ 64)
    (kept : digits packed 0 (ones_taken mask n) ++ kept_digits left word 0 64
    ≡ kept_digits mask word 0 64)
    (clear : packed < 2 ^ ones_taken mask n) where
  many : ones_taken mask n + length (kept_digits left word 0 64) ≡ count (digits mask 0 64)
  many = ones_so_far word packed (ones_taken mask n) left mask kept

  -- if a one is left, n steps took n
  all_taken : 0 < left → (ones_taken mask n ≡ n) × (ones_taken mask (n + 1) ≡ n + 1)
  all_taken some =
      let first = ap length (kept_digits-first word left some fits) in
      (omega (arith, many, first), omega (arith, many, first))

  -- a step takes it
  pub step-some : (bit : Bool) (rest : ℕ) → 0 < left → bit ≡ has_bit word (trailing_zeros w64 left)
      → rest ≡ bit_and left (left - 1)
      → (digits (with_digit packed n bit) 0 (ones_taken mask (n + 1)) ++ kept_digits rest word 0 64
      ≡ kept_digits mask word 0 64) × (with_digit packed n bit < 2 ^ ones_taken mask (n + 1))
  step-some bit rest some b r =
      let taken = all_taken some in
      let before : digits packed 0 n ++ kept_digits left word 0 64 ≡ kept_digits mask word 0 64 =
      subst (λ k. digits packed 0 k ++ kept_digits left word 0 64 ≡ kept_digits mask word 0 64)
      taken.0 kept in
      let small : packed < 2 ^ n = subst (λ k. packed < 2 ^ k) taken.0 clear in
      let within : n < 64 = ones_inside word packed n left mask some fits before in
      let front = digits packed 0 n in
      let others = kept_digits (bit_and left (left - 1)) word 0 64 in (
        ap (λ k. digits (with_digit packed n bit) 0 k ++ kept_digits rest word 0 64) taken.1
            ∙ ap (λ l. l ++ kept_digits rest word 0 64) (digits_packed packed n bit within small)
            ∙ ap (λ x. (front ++ bit ∷ []) ++ kept_digits x word 0 64) r
            ∙ append_assoc front (bit ∷ []) others ∙ ap (λ x. front ++ x ∷ others) b
            ∙ ap (λ l. front ++ l) (sym (kept_digits-first word left some fits)) ∙ before,
        subst (λ k. with_digit packed n bit < 2 ^ k) (sym taken.1)
            (packed_below packed n bit within small),
      )

  -- if none is left, all were taken
  pub none_left : left ≡ 0 → ones_taken mask n ≡ count (digits mask 0 64)
  none_left gone = omega (arith, many, ap length (kept_digits-zero word left gone))

  -- and a step takes none
  pub step-none : (bit : Bool) (rest : ℕ) → left ≡ 0 → bit ≡ false → rest ≡ 0
      → (digits (with_digit packed n bit) 0 (ones_taken mask (n + 1)) ++ kept_digits rest word 0 64
      ≡ kept_digits mask word 0 64) × (with_digit packed n bit < 2 ^ ones_taken mask (n + 1))
  step-none bit rest gone b r =
      let no : 0 * 2 ^ n % 2 ^ 64 ≡ 0 = omega arith in
      let same : with_digit packed n bit ≡ packed = ap (with_digit packed n) b
      ∙ ap (bit_or packed) no ∙ or_zero_r packed in
      let stays : ones_taken mask (n + 1) ≡ ones_taken mask n = omega (arith, none_left gone) in (
        ap (λ x. digits x 0 (ones_taken mask (n + 1)) ++ kept_digits rest word 0 64) same
            ∙ ap (λ k. digits packed 0 k ++ kept_digits rest word 0 64) stays
            ∙ ap (λ x. digits packed 0 (ones_taken mask n) ++ kept_digits x word 0 64)
            (r ∙ sym gone) ∙ kept,
        subst (λ x. x < 2 ^ ones_taken mask (n + 1)) (sym same)
            (subst (λ k. packed < 2 ^ k) (sym stays) clear),
      )

  -- after as many steps as the mask has ones, none is left
  pub steps_done : count (digits mask 0 64) ≤ n → left ≡ 0
  steps_done enough = elim (cases_lt 0 left) [
    | inl some ↦
        absurd (omega (arith, many, ap length (kept_digits-first word left some fits)))
    | inr none ↦ omega arith
  ]
