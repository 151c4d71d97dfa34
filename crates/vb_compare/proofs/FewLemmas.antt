-- Eight truth values, and words built from eights.
use Rattle.std.proofs.Common.{◌≡◌, ℕ, inl, inr, ◌+◌, ◌-◌, ◌*◌, ◌%◌, ◌^◌, ◌<◌, ◌≤◌, Bool, true}
use Rattle.std.proofs.Common.{false, ◌||◌, List, length, map, take, drop, get_or, eqb, refl, sym}
use Rattle.std.proofs.Common.{ap, ◌∙◌, arith, zero-add}
use Rattle.std.specs.Prelude.{bit_or}
use mir.Val.{bool_byte}
use Rattle.std.proofs.Math.Nat.{mod-le, mul-lt-mul_of_pos_right}
use Rattle.std.proofs.Math.Pow.{pow_mono}
use Rattle.std.proofs.lemmas.Bool.{cases_lt}
use Rattle.std.proofs.lemmas.List.{length-map, length-take-le, same_lists}
use Rattle.std.proofs.lemmas.List.{get_or-map, get_or-take, get_or-drop, get_or_default}
use Rattle.std.proofs.lemmas.Nat.{or_lt, pow-add}
use Rattle.vb_bits.specs.Digits.{has_bit, digits}
use Rattle.vb_bits.proofs.DigitsLemmas.{at-digits, has_bit-or, length-digits}
use Rattle.vb_bits.proofs.ShiftLemmas.{shl_low, shl_high, bit_at_cut}
use Rattle.vb_pack.proofs.WordsLemmas.{has_bit_above}

-- truth values written as bytes of 1 and 0, and compared with 1
pub bytes_back : (bytes : List ℕ) (l : List Bool) (n : ℕ) → length bytes ≡ n → length l ≡ n
    → ((i : ℕ) → i < n → get_or bytes i 0 ≡ bool_byte (get_or l i false))
    → map (λ x. eqb x 1) bytes ≡ l
bytes_back bytes l n long same_len same =
    same_lists _ _ (length-map bytes (λ x. eqb x 1) ∙ long ∙ sym same_len)
    (λ i d h.
    let inside : i < n = omega (arith, length-map bytes (λ x. eqb x 1)) in
    get_or-map (λ x. eqb x 1) bytes i 0 d (omega arith)
    ∙ ap (λ x. eqb x 1) (same i inside) ∙ told (get_or l i false)
    ∙ get_or_default l i false d (omega arith))
  where
    told : (b : Bool) → eqb (bool_byte b) 1 ≡ b
    told true = refl
    told false = refl

-- a bit of a word of a list's values
digit_of : (w k m i : ℕ) (l : List Bool) (d : Bool) → digits w 0 m ≡ take m (drop k l) → i < m
    → has_bit w i ≡ get_or l (k + i) d
digit_of w k m i l d e h =
    ap (has_bit w) (sym (zero-add i)) ∙ sym (at-digits w 0 m i d h) ∙ ap (λ x. get_or x i d) e
    ∙ get_or-take m (drop k l) i d h ∙ get_or-drop k l i d

-- the first m values and the eight from index s on, which may begin before the end of the first m
pub joined : (p e s m : ℕ) (l : List Bool) → s ≤ m → m ≤ s + 8 → s + 8 ≤ 64 → s + 8 ≤ length l
    → p < 2 ^ m → digits p 0 m ≡ take m (drop 0 l) → digits e 0 8 ≡ take 8 (drop s l)
    → digits (bit_or p (e * 2 ^ s % 2 ^ 64)) 0 (s + 8) ≡ take (s + 8) l
joined p e s m l over reach in_word inside small first second =
    let y : ℕ = e * 2 ^ s % 2 ^ 64 in
    let long : length (take (s + 8) l) ≡ s + 8 = length-take-le (s + 8) l inside in
    let size : length (digits (bit_or p y) 0 (s + 8)) ≡ s + 8 =
    length-digits (bit_or p y) 0 (s + 8) in
    same_lists _ _ (size ∙ sym long)
    (λ i d h.
    let within : i < s + 8 = omega (arith, size) in
    let value : Bool = get_or l i d in
    let moved : s ≤ i → has_bit y i ≡ value =
    λ from. let back : s + (i - s) ≡ i = omega arith in
    ap (λ z. eqb z 1) (bit_at_cut (e * 2 ^ s) 64 i (omega arith) ∙ shl_high e s i from)
    ∙ digit_of e s 8 (i - s) l d second (omega arith) ∙ ap (λ k. get_or l k d) back in
    let low : i < m → has_bit p i ≡ value =
    λ front. digit_of p 0 m i l d first front ∙ ap (λ k. get_or l k d) (zero-add i) in
    let either : (has_bit p i || has_bit y i) ≡ value = elim (cases_lt i m) [
      | inl front ↦ elim (cases_lt i s) [
        | inl under ↦
            ap (λ b. b || has_bit y i) (low front)
            ∙ ap (λ b. value || b) (ap (λ z. eqb z 1)
            (bit_at_cut (e * 2 ^ s) 64 i (omega arith) ∙ shl_low e s i under)) ∙ or_false value
        | inr from ↦
            ap (λ b. b || has_bit y i) (low front) ∙ ap (λ b. value || b) (moved from)
            ∙ or_same value
      ]
      | inr behind ↦
          ap (λ b. b || has_bit y i) (has_bit_above p m i small behind)
          ∙ moved (omega arith)
    ] in
    at-digits (bit_or p y) 0 (s + 8) i d within ∙ ap (has_bit (bit_or p y)) (zero-add i)
    ∙ has_bit-or p y i ∙ either ∙ sym (get_or-take (s + 8) l i d within))
  where
    or_false : (b : Bool) → (b || false) ≡ b
    or_false true = refl
    or_false false = refl

    or_same : (b : Bool) → (b || b) ≡ b
    or_same true = refl
    or_same false = refl

-- the word has no ones after them
pub joined_below : (p e s : ℕ) → p < 2 ^ s → e < 2 ^ 8
    → bit_or p (e * 2 ^ s % 2 ^ 64) < 2 ^ (s + 8)
joined_below p e s small few =
    let whole : 2 ^ (s + 8) ≡ 2 ^ s * 2 ^ 8 = pow-add 2 s 8 in
    let one : 2 ^ 0 ≤ 2 ^ s = pow_mono {i = 0} {j = s} (omega arith) in
    let more : 2 ^ s ≤ 2 ^ (s + 8) = pow_mono {i = s} {j = s + 8} (omega arith) in
    let scaled : e * 2 ^ s < 2 ^ 8 * 2 ^ s = mul-lt-mul_of_pos_right few (omega (arith, one)) in
    or_lt (s + 8) p (e * 2 ^ s % 2 ^ 64) (omega (arith, more))
    (omega (arith, mod-le (e * 2 ^ s) (2 ^ 64)))
