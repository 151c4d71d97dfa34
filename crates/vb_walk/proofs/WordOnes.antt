-- The values at the ones of a word.
use Rattle.std.proofs.Common.{◌≡◌, ℕ, ◌+◌, ◌-◌, ◌<◌, ◌≤◌, ◌^◌, Bool, true, false, List, [], ◌∷◌}
use Rattle.std.proofs.Common.{eqb, length, map, get_or, refl, sym, ap, ◌∙◌, arith}
use Rattle.std.proofs.Math.Pow.{pow_mono}
use Rattle.std.proofs.lemmas.Nat.Bits.{bit_at-zero, bit_at-trailing_zeros}
use Rattle.std.specs.Int.{trailing_zeros, w64}
use Rattle.std.specs.Prelude.{count_ones}
use Rattle.std.specs.Int.Bits.{bit_and}
use Rattle.vb_bits.specs.Bits.{count}
use Rattle.vb_bits.specs.Digits.{has_bit, digits}
use Rattle.vb_bits.specs.Kept.{kept_by}
use Rattle.vb_bits.proofs.BitsLemmas.{count-le, count-append}
use Rattle.vb_bits.proofs.DigitsLemmas.{length-digits, count-digits_below}
use Rattle.vb_bits.proofs.KeptLemmas.{map-places, length-kept_by}
use Rattle.vb_bits.proofs.PlacesLemmas.{length-places}
use Rattle.vb_walk.specs.Walks.{places_in}
use Rattle.vb_walk.proofs.OnesLemmas.{lowest_off, lowest_below}
use Rattle.vb_walk.proofs.PlacesLemmas.{places_in_first, places_in_empty, places-digits}

-- the positions of the ones among the first n bits of a word
abbrev pub ones : ℕ → ℕ → List ℕ
ones n w = places_in (has_bit w) 0 n

-- 0 has none
pub ones_none : (n : ℕ) → ones n 0 ≡ []
ones_none n =
    places_in_empty (has_bit 0) 0 n (λ i lo hi. ap (λ x. eqb x 1) (bit_at-zero i))

module _ (n w : ℕ) (some : 0 < w) (clear : w < 2 ^ n) (few : n ≤ 64) where
  pub word_fits : w < 2 ^ 64
  word_fits = let more : 2 ^ n ≤ 2 ^ 64 = pow_mono few in omega arith

  -- the lowest one, and those of the word without it
  pub ones_first : ones n w ≡ trailing_zeros w64 w ∷ ones n (bit_and w (w - 1))
  ones_first =
      let low : ℕ = trailing_zeros w64 w in
      let z = bit_at-trailing_zeros w64 w some word_fits in
      let off = lowest_off w low z.1 z.2 in
      places_in_first (has_bit w) (has_bit (bit_and w (w - 1))) 0 n low (omega arith)
      (omega (arith, lowest_below n w some clear few)) (λ i lo hi. ap (λ x. eqb x 1) (z.2 i hi))
      (ap (λ x. eqb x 1) z.1) (λ i lo hi. ap (λ x. eqb x 1) (off.0 i hi))
      (λ i lo hi. ap (λ x. eqb x 1) (off.1 i lo))

-- the values at them
pub map-ones : {T : Type 0} (d : T) (w : ℕ) (xs : List T)
    → map (λ i. get_or xs i d) (ones (length xs) w) ≡ kept_by (digits w 0 (length xs)) xs
map-ones d w xs =
    ap (map (λ i. get_or xs i d)) (sym (places-digits w (length xs)))
    ∙ map-places d (digits w 0 (length xs)) xs (length-digits w 0 (length xs))

-- their number is that of the ones of the word
pub length-ones : (n w : ℕ) → w < 2 ^ n → length (ones n w) ≡ count_ones w
length-ones n w clear =
    ap length (sym (places-digits w n)) ∙ length-places (digits w 0 n)
    ∙ count-digits_below w n clear

-- the number of selected values is that of the set bits of the mask
pub length-kept_by_any : {T : Type 0} (bits : List Bool) (xs : List T) → length bits ≡ length xs
    → length (kept_by bits xs) ≡ count bits
length-kept_by_any [] [] same = refl
length-kept_by_any [] (x ∷ xs) same = refl
length-kept_by_any (b ∷ bits) [] same = absurd (omega arith)
length-kept_by_any (b ∷ bits) (x ∷ xs) same = length-kept_by x (b ∷ bits) (x ∷ xs) same

-- the number of values that a word selects is that of its ones
pub length-kept_by_ones : {T : Type 0} (xs : List T) (w : ℕ) → w < 2 ^ length xs
    → length (kept_by (digits w 0 (length xs)) xs) ≡ count_ones w
length-kept_by_ones xs w clear =
    length-kept_by_any (digits w 0 (length xs)) xs (length-digits w 0 (length xs))
    ∙ count-digits_below w (length xs) clear

-- a mask that is true selects all
pub kept_all : {T : Type 0} (bits : List Bool) (xs : List T) → length bits ≡ length xs
    → count bits ≡ length bits → kept_by bits xs ≡ xs
kept_all [] [] same full = refl
kept_all [] (x ∷ xs) same full = absurd (omega arith)
kept_all (b ∷ bits) [] same full = absurd (omega arith)
kept_all (true ∷ bits) (x ∷ xs) same full =
    let one : count (true ∷ bits) ≡ 1 + count bits = count-append (true ∷ []) bits in
    ap (λ ys. x ∷ ys) (kept_all bits xs (omega arith) (omega (arith, one)))
kept_all (false ∷ bits) (x ∷ xs) same full =
    let none : count (false ∷ bits) ≡ 0 + count bits = count-append (false ∷ []) bits in
    absurd (omega (arith, none, count-le bits))
