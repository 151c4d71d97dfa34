-- Blocks of 64 indices: which are in range, and the word that is taken.
use Rattle.std.proofs.Common.{◌≡◌, ℕ, ◌+◌, ◌-◌, ◌^◌, ◌<◌, ◌≤◌, Bool, true, false, not, ◌&&◌, cond}
use Rattle.std.proofs.Common.{eqb, ltb, min, List, length, get_or, slice_get, Some, refl, sym, ap}
use Rattle.std.proofs.Common.{◌∙◌, arith}
use Rattle.std.specs.Int.{bit_not, trailing_zeros, w64}
use Rattle.std.specs.Prelude.{bit_and, Ok, Err}
use Rattle.std.proofs.lemmas.Bool.{ltb-true, ltb-false}
use Rattle.std.proofs.lemmas.Nat.Bits.{bit_at-trailing_zeros, bit_at_ones, bit_at-zero}
use Rattle.vb_bits.specs.Bits.{bit_of, bits}
use Rattle.vb_bits.specs.Digits.{has_bit}
use Rattle.vb_bits.proofs.DigitsLemmas.{has_bit-and, has_bit-bit_not}
use Rattle.vb_bits.proofs.WindowLemmas.{slice_get-bits}
use Rattle.vb_take.specs.Blocks.{TakesBlock}

-- a bit of the word whose bits are all 1
pub digit_of_all : (k : ℕ) → k < 64 → has_bit (2 ^ 64 - 1) k ≡ true
digit_of_all k h = ap (λ x. eqb x 1) (bit_at_ones 64 k h)

-- ---- which positions are past
-- a position counts, and its index is out of range
has_bit-past : (v w k : ℕ) → w < 2 ^ 64
    → k < 64 → has_bit (bit_and v (bit_not w64 w)) k ≡ (has_bit v k && not (has_bit w k))
has_bit-past v w k small h =
    has_bit-and v (bit_not w64 w) k ∙ ap (λ b. has_bit v k && b) (has_bit-bit_not w64 w k small h)

-- only the first of two holds
only_first : (a b : Bool) → (a && not b) ≡ true → (a ≡ true) × (b ≡ false)
only_first true true h = cc
only_first true false h = (refl, refl)
only_first false b h = cc

-- if the first of two holds, and not the first alone, the second holds too
second_too : (a b : Bool) → (a && not b) ≡ false → a ≡ true → b ≡ true
second_too true true h e = refl
second_too true false h e = cc
second_too false b h e = cc

-- the second of two is true
and_true : (b : Bool) → (b && true) ≡ b
and_true true = refl
and_true false = refl

and_false : (b : Bool) → (b && false) ≡ false
and_false true = refl
and_false false = refl

-- a bit of 0
zero_digit : (k : ℕ) → has_bit 0 k ≡ false
zero_digit k = ap (λ x. eqb x 1) (bit_at-zero k)

-- the first position that counts and whose index is out of range
pub TakesBlock-past : (l : List Bool) (block : List ℕ) (v w n : ℕ)
    → length l ≡ n → w < 2 ^ 64 → ((k : ℕ) → k < 64 → has_bit w k ≡ ltb (get_or block k 0) n)
    → 0 < bit_and v (bit_not w64 w) → bit_and v (bit_not w64 w)
    < 2 ^ 64 → TakesBlock l block v (Err (trailing_zeros w64 (bit_and v (bit_not w64 w))))
TakesBlock-past l block v w n len small within some fits =
    let x : ℕ = bit_and v (bit_not w64 w) in
    let p : ℕ = trailing_zeros w64 x in
    let lowest = bit_at-trailing_zeros w64 x some fits in
    let inside : p < 64 = lowest.0 in
    let first = only_first (has_bit v p)
    (has_bit w p) (sym (has_bit-past v w p small inside) ∙ ap (λ y. eqb y 1) lowest.1) in
    let past : n ≤ get_or block p 0 =
    ltb-false (get_or block p 0) n (sym (within p inside) ∙ first.1) in (
      inside,
      first.0,
      omega arith,
      λ k h e.
          let low : k < 64 = omega arith in
          let here : has_bit w k ≡ true = second_too (has_bit v k) (has_bit w k)
          (sym (has_bit-past v w k small low) ∙ ap (λ y. eqb y 1) (lowest.2 k h)) e in
          let below : get_or block k 0 < n =
          ltb-true (get_or block k 0) n (sym (within k low) ∙ here) in
          omega arith,
    )

-- ---- the word
-- the value that a position takes from a word of bits that were read
pub TakesBlock-word : (b block places : List ℕ) (o m n v w x : ℕ)
    → m ≡ n → w < 2 ^ 64 → ((k : ℕ) → k < 64 → has_bit w k ≡ ltb (get_or block k 0) n)
    → bit_and v (bit_not w64 w)
    ≡ 0 → ((k : ℕ) → k < 64 → get_or places k 0 ≡ min (get_or block k 0) (n - 1) + o)
    → ((k : ℕ) → k < 64 → has_bit x k ≡ bit_of b (get_or places k 0))
    → TakesBlock (bits b o m) block v (Ok (bit_and x v))
TakesBlock-word b block places o m n v w x same small within none placed read = λ k h.
    let out : has_bit (bit_and x v) k ≡ (has_bit x k && has_bit v k) = has_bit-and x v k in
    let clear : (has_bit v k && not (has_bit w k)) ≡ false =
    sym (has_bit-past v w k small h) ∙ ap (λ y. has_bit y k) none ∙ zero_digit k in
    step k h (has_bit v k) refl out clear
  where
    step : (k : ℕ) → k < 64 → (t : Bool) → has_bit v k ≡ t
        → has_bit (bit_and x v) k ≡ (has_bit x k && t) → (t && not (has_bit w k)) ≡ false → cond t
        (slice_get (bits b o m) (get_or block k 0)) (Some false) ≡ Some (has_bit (bit_and x v) k)
    step k h true e out clear =
        let below : get_or block k 0 < n = ltb-true (get_or block k 0) n
        (sym (within k h) ∙ second_too true (has_bit w k) clear refl) in
        let place : o + get_or block k 0 ≡ get_or places k 0 = omega (arith, placed k h) in
        slice_get-bits b o m (get_or block k 0) (omega arith) ∙ ap (λ i. Some (bit_of b i)) place
        ∙ ap Some (sym (out ∙ and_true (has_bit x k) ∙ read k h))
    step k h false e out clear = ap Some (sym (out ∙ and_false (has_bit x k)))
