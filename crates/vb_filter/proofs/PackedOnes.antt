-- Bits that a mask selects, one by one.
use Rattle.std.proofs.Common.{◌≡◌, ℕ, ◌+◌, ◌-◌, ◌^◌, ◌<◌, Bool, false, [], ◌∷◌, ◌++◌}
use Rattle.std.proofs.Common.{length, length-append, map, get_or, sym, ap, subst, ◌∙◌, arith}
use Rattle.std.proofs.Common.{zero-add}
use Rattle.std.specs.Int.{trailing_zeros, w64}
use Rattle.std.specs.Int.Bits.{bit_and}
use Rattle.vb_bits.specs.Bits.{count}
use Rattle.vb_bits.specs.Digits.{has_bit, digits}
use Rattle.vb_bits.specs.Kept.{kept_by}
use Rattle.vb_bits.proofs.BitsLemmas.{count-le}
use Rattle.vb_bits.proofs.DigitsLemmas.{length-digits, at-digits}
use Rattle.vb_walk.proofs.WordOnes.{ones, ones_none, ones_first, map-ones}
use Rattle.vb_walk.proofs.OnesLemmas.{lowest_below}
use Rattle.vb_filter.proofs.PackedDigits.{kept_digits, length-kept_digits}

module _ (word : ℕ) where
  abbrev value : ℕ → Bool
  value i = get_or (digits word 0 64) i false

  -- the bits at the ones of a mask
  at_ones : (w : ℕ) → map value (ones 64 w) ≡ kept_digits w word 0 64
  at_ones w =
      subst (λ n. map value (ones n w) ≡ kept_by (digits w 0 n) (digits word 0 64))
      (length-digits word 0 64) (map-ones false w (digits word 0 64))

  -- a mask of 0 selects none
  pub kept_digits-zero : (w : ℕ) → w ≡ 0 → kept_digits w word 0 64 ≡ []
  kept_digits-zero w gone =
      sym (at_ones w) ∙ ap (λ x. map value (ones 64 x)) gone ∙ ap (map value) (ones_none 64)

  -- the bit at the lowest one, and those at the others
  pub kept_digits-first : (w : ℕ) → 0 < w → w < 2 ^ 64 → kept_digits w word 0 64
      ≡ has_bit word (trailing_zeros w64 w) ∷ kept_digits (bit_and w (w - 1)) word 0 64
  kept_digits-first w some fits =
      let low : ℕ = trailing_zeros w64 w in
      let within = lowest_below 64 w some fits (omega arith) in
      sym (at_ones w) ∙ ap (map value) (ones_first 64 w some fits (omega arith))
      ∙ ap (λ l. value low ∷ l) (at_ones (bit_and w (w - 1)))
      ∙ ap (λ b. b ∷ kept_digits (bit_and w (w - 1)) word 0 64)
      (at-digits word 0 64 low false within ∙ ap (has_bit word) (zero-add low))

  -- the number of bits packed so far, and of those that are left
  pub ones_so_far : (packed n left mask : ℕ)
      → digits packed 0 n ++ kept_digits left word 0 64 ≡ kept_digits mask word 0 64
      → n + length (kept_digits left word 0 64) ≡ count (digits mask 0 64)
  ones_so_far packed n left mask e = omega (
    arith,
    ap length e,
    length-append (digits packed 0 n) (kept_digits left word 0 64),
    length-digits packed 0 n,
    length-kept_digits mask word 0 64,
  )

  pub ones_inside : (packed n left mask : ℕ) → 0 < left → left < 2 ^ 64
      → digits packed 0 n ++ kept_digits left word 0 64 ≡ kept_digits mask word 0 64 → n < 64
  ones_inside packed n left mask some fits e = omega (
    arith,
    ones_so_far packed n left mask e,
    ap length (kept_digits-first left some fits),
    count-le (digits mask 0 64),
    length-digits mask 0 64,
  )
