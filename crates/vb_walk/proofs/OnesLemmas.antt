-- The lowest ones of a number.
use Rattle.std.proofs.Common.{◌≡◌, inl, inr, ℕ, suc, ◌+◌, ◌-◌, ◌*◌, ◌/◌, ◌%◌, ◌^◌, ◌<◌, ◌≤◌, eqb}
use Rattle.std.proofs.Common.{refl, sym, ap, ◌∙◌, arith}
use Rattle.std.proofs.Math.Nat.{pow-suc}
use Rattle.std.proofs.Math.Pow.{pow_mono}
use Rattle.std.proofs.lemmas.Bool.{cases_lt}
use Rattle.std.proofs.lemmas.Nat.{pow_pos, mod_below, shr_split, and_le_l, and_le_r, or_lt}
use Rattle.std.proofs.lemmas.Nat.Bits.{bit_at_and, bit_at_or, bit_at_ones, bit_at-zero, bit_at-lt}
use Rattle.std.proofs.lemmas.Nat.Bits.{bit_at_above, bit_at_cat_low, bit_at_cat_high}
use Rattle.std.proofs.lemmas.Nat.Bits.{bit_at-pow_same, bit_at-pow_other, bit_at-trailing_zeros}
use Rattle.std.proofs.lemmas.Nat.Bits.{bit_at-trailing_ones, same_from_bits_below}
use Rattle.std.specs.Int.{bit_at, trailing_zeros, trailing_ones, w64}
use Rattle.std.specs.Int.Bits.{bit_and, bit_or}
use lib.Count.{count_trailing_zeros}
use Rattle.vb_bits.proofs.ShiftLemmas.{bit_at_cut}
use Rattle.vb_walk.specs.Ones.{CutsOnes}

-- a number whose lowest digits are those of r
cut_at : (w r k : ℕ)
    → r < 2 ^ k → ((i : ℕ) → i < k → bit_at w i ≡ bit_at r i) → w ≡ w / 2 ^ k * 2 ^ k + r
cut_at w r k small same =
    sym (shr_split w k)
    ∙ ap (λ x. w / 2 ^ k * 2 ^ k + x) (same_from_bits_below k (w % 2 ^ k) r
    (mod_below w (2 ^ k) (pow_pos k)) small (λ i l. bit_at_cut w k i l ∙ same i l))

-- ---- one less, and one more
module _ (w t : ℕ) (on : bit_at w t ≡ 1) (off : (i : ℕ) → i < t → bit_at w i ≡ 0) where
  -- w is its digits above the lowest 1, which is at index t, and that 1
  lowest_split : w ≡ w / 2 ^ suc t * 2 ^ suc t + 2 ^ t
  lowest_split =
      let double : 2 ^ suc t ≡ 2 ^ t * 2 = pow-suc 2 t in
      let some : 0 < 2 ^ t = pow_pos t in
      cut_at w (2 ^ t) (suc t) (omega arith) (λ i l. elim (cases_lt i t) [
        | inl below ↦ off i below ∙ sym (bit_at-pow_other t i (λ e. absurd (omega arith)))
        | inr here ↦ let e : i ≡ t = omega arith in
            ap (bit_at w) e ∙ on ∙ sym (ap (bit_at (2 ^ t)) e ∙ bit_at-pow_same t)
      ])

  less_split : w - 1 ≡ w / 2 ^ suc t * 2 ^ suc t + (2 ^ t - 1)
  less_split = let some : 0 < 2 ^ t = pow_pos t in let e = lowest_split in omega arith

  -- the digits of w - 1: ones below t, 0 at t, and those of w above
  less_below : (i : ℕ) → i < t → bit_at (w - 1) i ≡ 1
  less_below i l = ap (λ x. bit_at x i) less_split
      ∙ bit_at_cat_low (w / 2 ^ suc t) (suc t) (2 ^ t - 1) i (omega arith) ∙ bit_at_ones t i l

  less_here : bit_at (w - 1) t ≡ 0
  less_here = ap (λ x. bit_at x t) less_split
      ∙ bit_at_cat_low (w / 2 ^ suc t) (suc t) (2 ^ t - 1) t (omega arith)
      ∙ bit_at_above (2 ^ t - 1) t t (let some : 0 < 2 ^ t = pow_pos t in omega arith) (omega arith)

  less_above : (i : ℕ) → t < i → bit_at (w - 1) i ≡ bit_at w i
  less_above i l =
      let double : 2 ^ suc t ≡ 2 ^ t * 2 = pow-suc 2 t in
      let some : 0 < 2 ^ t = pow_pos t in
      ap (λ x. bit_at x i) less_split
      ∙ bit_at_cat_high (w / 2 ^ suc t) (suc t) (2 ^ t - 1) i (omega arith) (omega arith)
      ∙ sym (ap (λ x. bit_at x i) lowest_split
      ∙ bit_at_cat_high (w / 2 ^ suc t) (suc t) (2 ^ t) i (omega arith) (omega arith))

  -- `w & (w - 1)` has no digit up to the lowest 1, and the digits of w above
  pub lowest_off : ((i : ℕ) → i ≤ t → bit_at (bit_and w (w - 1)) i ≡ 0)
      × ((i : ℕ) → t < i → bit_at (bit_and w (w - 1)) i ≡ bit_at w i)
  lowest_off = (
    λ i l. bit_at_and w (w - 1) i ∙ elim (cases_lt i t) [
      | inl below ↦ omega (arith, off i below)
      | inr here ↦ let e : i ≡ t = omega arith in omega (arith, ap (bit_at (w - 1)) e, less_here)
    ],
    λ i l. bit_at_and w (w - 1) i ∙ omega (arith, less_above i l),
  )

  -- `w | (w - 1)` has ones up to the lowest 1, and the digits of w above
  filled_low : (i : ℕ) → i ≤ t → bit_at (bit_or w (w - 1)) i ≡ 1
  filled_low i l = bit_at_or w (w - 1) i ∙ elim (cases_lt i t) [
    | inl below ↦ omega (arith, less_below i below, bit_at-lt w i)
    | inr here ↦ let e : i ≡ t = omega arith in
        omega (arith, ap (bit_at w) e, on, bit_at-lt (w - 1) i)
  ]

  filled_high : (i : ℕ) → t < i → bit_at (bit_or w (w - 1)) i ≡ bit_at w i
  filled_high i l = bit_at_or w (w - 1) i ∙ omega (arith, less_above i l)

module _ (f z : ℕ) (ones : (i : ℕ) → i < z → bit_at f i ≡ 1) (off : bit_at f z ≡ 0) where
  -- f is its digits above the lowest 0, which is at index z, and the ones below
  ones_split : f ≡ f / 2 ^ suc z * 2 ^ suc z + (2 ^ z - 1)
  ones_split =
      let double : 2 ^ suc z ≡ 2 ^ z * 2 = pow-suc 2 z in
      let some : 0 < 2 ^ z = pow_pos z in
      cut_at f (2 ^ z - 1) (suc z) (omega arith) (λ i l. elim (cases_lt i z) [
        | inl below ↦ ones i below ∙ sym (bit_at_ones z i below)
        | inr here ↦ let e : i ≡ z = omega arith in
            ap (bit_at f) e ∙ off ∙ sym (ap (bit_at (2 ^ z - 1)) e
            ∙ bit_at_above (2 ^ z - 1) z z (omega arith) (omega arith))
      ])

  more_split : f + 1 ≡ f / 2 ^ suc z * 2 ^ suc z + 2 ^ z
  more_split = let some : 0 < 2 ^ z = pow_pos z in let e = ones_split in omega arith

  -- the digits of f + 1: zeros below z, and those of f above
  more_below : (i : ℕ) → i < z → bit_at (f + 1) i ≡ 0
  more_below i l = ap (λ x. bit_at x i) more_split ∙ bit_at_cat_low (f / 2 ^ suc z)
      (suc z) (2 ^ z) i (omega arith) ∙ bit_at-pow_other z i (λ e. absurd (omega arith))

  more_above : (i : ℕ) → z < i → bit_at (f + 1) i ≡ bit_at f i
  more_above i l =
      let double : 2 ^ suc z ≡ 2 ^ z * 2 = pow-suc 2 z in
      let some : 0 < 2 ^ z = pow_pos z in
      ap (λ x. bit_at x i) more_split
      ∙ bit_at_cat_high (f / 2 ^ suc z) (suc z) (2 ^ z) i (omega arith) (omega arith)
      ∙ sym (ap (λ x. bit_at x i) ones_split
      ∙ bit_at_cat_high (f / 2 ^ suc z) (suc z) (2 ^ z - 1) i (omega arith) (omega arith))

  -- `w & (f + 1)`, if w has the digits of f from z on, is w without those below z
  without_ones : (w : ℕ) → ((i : ℕ) → z ≤ i → bit_at f i ≡ bit_at w i)
      → ((i : ℕ) → i < z → bit_at (bit_and w (f + 1)) i ≡ 0)
      × ((i : ℕ) → z ≤ i → bit_at (bit_and w (f + 1)) i ≡ bit_at w i)
  without_ones w same = (
    λ i l. bit_at_and w (f + 1) i ∙ omega (arith, more_below i l),
    λ i l. bit_at_and w (f + 1) i ∙ elim (cases_lt z i) [
      | inl above ↦ omega (arith, more_above i above, same i l)
      | inr here ↦ let e : i ≡ z = omega arith in omega (arith, same i l, ap (bit_at f) e, off)
    ],
  )

-- ---- runs
-- the lowest ones of a word with a 0
pub CutsOnes-low : (w : ℕ) → w + 1 < 2 ^ 64 → CutsOnes w 0 (trailing_ones w64 w) (bit_and w (w + 1))
CutsOnes-low w fits =
    let z : ℕ = trailing_ones w64 w in
    let low = bit_at-trailing_ones w64 w fits in
    let without = without_ones w z low.2 low.1 w (λ i l. refl) in
    record {
      within = omega (arith, low.0);
      ones = λ i lo hi. ap (λ x. eqb x 1) (low.2 i hi);
      stop = λ l. ap (λ x. eqb x 1) low.1;
      gone = λ i l. ap (λ x. eqb x 1) (without.0 i l);
      kept = λ i lo hi. ap (λ x. eqb x 1) (without.1 i lo);
      fewer = and_le_l w (w + 1);
    }

-- the lowest run, if a 0 is above it
run_inside : (w : ℕ) → 0 < w → w < 2 ^ 64 → bit_or w (w - 1) + 1 < 2 ^ 64 → CutsOnes w
    (trailing_zeros w64 w) (trailing_ones w64 (bit_or w (w - 1))) (bit_and w (bit_or w (w - 1) + 1))
    × (trailing_zeros w64 w < trailing_ones w64 (bit_or w (w - 1)))
run_inside w some fits inside =
    let t : ℕ = trailing_zeros w64 w in
    let f : ℕ = bit_or w (w - 1) in
    let z : ℕ = trailing_ones w64 f in
    let low = bit_at-trailing_zeros w64 w some fits in
    let high = bit_at-trailing_ones w64 f inside in
    let order : t < z = elim (cases_lt t z)
    [ inl l ↦ l | inr g ↦ absurd (omega (arith, filled_low w t low.1 low.2 z g, high.1)) ] in
    let without =
    without_ones f z high.2 high.1 w (λ i l. filled_high w t low.1 low.2 i (omega arith)) in (
      record {
        within = omega (arith, high.0);
        ones = λ i lo hi. ap (λ x. eqb x 1) (elim (cases_lt t i) [
          | inl above ↦ sym (filled_high w t low.1 low.2 i above) ∙ high.2 i hi
          | inr here ↦ let e : i ≡ t = omega arith in ap (bit_at w) e ∙ low.1
        ]);
        stop = λ l. ap (λ x. eqb x 1) (sym (filled_high w t low.1 low.2 z order) ∙ high.1);
        gone = λ i l. ap (λ x. eqb x 1) (without.0 i l);
        kept = λ i lo hi. ap (λ x. eqb x 1) (without.1 i lo);
        fewer = and_le_l w (f + 1);
      },
      order,
    )

-- a word of ones has 64
ones_of_full : trailing_ones w64 (2 ^ 64 - 1) ≡ 64
unfolding count_trailing_zeros
ones_of_full = refl

-- the lowest run, if it continues up to the last digit
run_to_end : (w : ℕ) → 0 < w → w < 2 ^ 64 → bit_or w (w - 1) ≡ 2 ^ 64 - 1
    → CutsOnes w (trailing_zeros w64 w) 64 0 × (trailing_zeros w64 w < 64)
run_to_end w some fits full =
    let t : ℕ = trailing_zeros w64 w in
    let f : ℕ = bit_or w (w - 1) in
    let low = bit_at-trailing_zeros w64 w some fits in (
      record {
        within = omega arith;
        ones = λ i lo hi. ap (λ x. eqb x 1) (elim (cases_lt t i) [
          | inl above ↦ sym (filled_high w t low.1 low.2 i above)
              ∙ ap (λ x. bit_at x i) full ∙ bit_at_ones 64 i hi
          | inr here ↦ let e : i ≡ t = omega arith in ap (bit_at w) e ∙ low.1
        ]);
        stop = λ l. absurd (omega arith);
        gone = λ i l. ap (λ x. eqb x 1) (bit_at-zero i);
        kept = λ i lo hi. absurd (omega arith);
        fewer = omega arith;
      },
      low.0,
    )

-- the lowest run of a word
pub CutsOnes-run : (w z : ℕ) → 0 < w → w < 2 ^ 64 → z ≡ trailing_ones w64 (bit_or w (w - 1))
    → CutsOnes w (trailing_zeros w64 w) z (bit_and w ((bit_or w (w - 1) + 1) % 2 ^ 64))
    × (trailing_zeros w64 w < z)
CutsOnes-run w z some fits e =
    let f : ℕ = bit_or w (w - 1) in
    let small : f < 2 ^ 64 = or_lt 64 w (w - 1) fits (omega arith) in
    elim (cases_lt (f + 1) (2 ^ 64)) [
      | inl inside ↦
          let same : (f + 1) % 2 ^ 64 ≡ f + 1 = omega arith in
          rw (same, e) (run_inside w some fits inside)
      | inr past ↦
          let full : f ≡ 2 ^ 64 - 1 = omega arith in
          let none : bit_and w ((f + 1) % 2 ^ 64) ≡ 0 =
          let z : (f + 1) % 2 ^ 64 ≡ 0 = omega arith in
          omega (arith, ap (bit_and w) z, and_le_r w 0) in
          let all : z ≡ 64 = e ∙ ap (trailing_ones w64) full ∙ ones_of_full in
          rw (none, all) (run_to_end w some fits full)
    ]

-- the index of the lowest 1 of a number of n digits
pub lowest_below : (n w : ℕ) → 0 < w → w < 2 ^ n → n ≤ 64 → trailing_zeros w64 w < n
lowest_below n w some clear few =
    let more : 2 ^ n ≤ 2 ^ 64 = pow_mono few in
    let z = bit_at-trailing_zeros w64 w some (omega arith) in
    elim (cases_lt (trailing_zeros w64 w) n) [
      | inl below ↦ below
      | inr above ↦
          let none : bit_at w (trailing_zeros w64 w) ≡ 0 =
          bit_at_above w n (trailing_zeros w64 w) clear above in
          absurd (omega (arith, z.1))
    ]
