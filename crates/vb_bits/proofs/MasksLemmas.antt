-- Writes of bits in one byte: one bit, and those under a mask.
use Rattle.std.proofs.Common.{◌≡◌, ◌≢◌, ◌⊎◌, inl, inr, ℕ, zero, suc, ◌+◌, ◌-◌, ◌*◌, ◌/◌, ◌%◌, ◌^◌}
use Rattle.std.proofs.Common.{◌<◌, ◌≤◌, Bool, true, false, not, eqb, max, min, List, [], ◌∷◌}
use Rattle.std.proofs.Common.{length, get_or, set, replicate, get_or-set_same, get_or-set_other}
use Rattle.std.proofs.Common.{refl, sym, ap, ◌∙◌, arith, zero-add, add-zero}
use Rattle.std.proofs.lemmas.List.{length-replicate, length-map, length-set, get_or-replicate}
use Rattle.std.proofs.lemmas.List.{get_or-map}
use Rattle.std.proofs.lemmas.Bool.{cases_eq}
use Rattle.std.proofs.lemmas.Nat.{pow_pos}
use Rattle.std.proofs.lemmas.Nat.Bits.{bit_at_or, bit_at_and, bit_at_xor, bit_at_not, bit_at-lt}
use Rattle.std.proofs.lemmas.Nat.Bits.{bit_at_mask_inside, bit_at_mask_below, bit_at_mask_above}
use Rattle.std.proofs.lemmas.Nat.Bits.{bit_at_set_same, bit_at_set_other, bit_at_clear_same}
use Rattle.std.proofs.lemmas.Nat.Bits.{bit_at_clear_other}
use Rattle.std.proofs.Math.Pow.{pow_mono}
use Rattle.std.specs.Int.{bit_at, bit_not, from_bool, rotate_left, w8}
use Rattle.std.specs.Int.Bits.{or_zero_r}
use Rattle.std.specs.Prelude.{bit_and, bit_or, bit_xor}
use Rattle.vb_bits.specs.Bits.{bit_of, bits, complement}
use Rattle.vb_bits.specs.Digits.{has_bit, digits}
use Rattle.vb_bits.specs.Writes.{Writes}
use Rattle.vb_bits.proofs.BitsLemmas.{at-bits, length-bits}
use Rattle.vb_bits.proofs.DigitsLemmas.{length-digits, at-digits}
use Rattle.vb_bits.proofs.ShiftLemmas.{shl_high, bit_at_cut}
use Rattle.vb_bits.proofs.WritesLemmas.{Writes_by_bits}

-- a bit of the written byte
bit_of-set_same : (b : List ℕ) (j y k : ℕ)
    → j < length b → k / 8 ≡ j → bit_of (set b j y) k ≡ has_bit y (k % 8)
bit_of-set_same b j y k h e = ap (λ x. has_bit (get_or (set b j y) x 0) (k % 8)) e
    ∙ ap (λ x. has_bit x (k % 8)) (get_or-set_same b j y 0 h)

-- some bits of one byte are written
pub Writes-in_byte : (b : List ℕ) (o y : ℕ) (m : List Bool)
    → o % 8 + length m ≤ 8 → o / 8 < length b
    → ((i : ℕ) (d : Bool) → i < length m → has_bit y (o % 8 + i) ≡ get_or m i d)
    → ((r : ℕ) → r < 8 → (r < o % 8) ⊎ (o % 8 + length m ≤ r) → has_bit y
    r ≡ has_bit (get_or b (o / 8) 0) r)
    → Writes b (set b (o / 8) y) o m
Writes-in_byte b o y m within there inside outside =
    Writes_by_bits b (set b (o / 8) y) o m (length-set b (o / 8) y)
    (λ i d l.
    let digit : (o + i) % 8 ≡ o % 8 + i = omega arith in
    bit_of-set_same b (o / 8) y (o + i) there (omega arith) ∙ ap (has_bit y) digit ∙ inside i d l)
    (λ i h. elim (cases_eq (i / 8) (o / 8)) [
      | inl e ↦
          bit_of-set_same b (o / 8) y i there e ∙ outside (i % 8) (omega arith)
          (elim h [ inl low ↦ inl (omega arith) | inr high ↦ inr (omega arith) ])
          ∙ ap (λ j. has_bit (get_or b j 0) (i % 8)) (sym e)
      | inr ne ↦ ap (λ x. has_bit x (i % 8)) (get_or-set_other b (o / 8) (i / 8) y 0 ne)
    ])

-- one bit
Writes-bit : (b : List ℕ) (i y : ℕ) (v : Bool) → i / 8 < length b → has_bit y (i % 8) ≡ v
    → ((j : ℕ) → j < 8 → j ≢ i % 8 → bit_at y j ≡ bit_at (get_or b (i / 8) 0) j)
    → Writes b (set b (i / 8) y) i (v ∷ [])
Writes-bit b i y v there e others =
    Writes-in_byte b i y (v ∷ []) (omega arith) there (first v e)
    (λ r l h.
    ap (λ x. eqb x 1) (others r l (elim h [ inl low ↦ omega arith | inr high ↦ omega arith ])))
  where
    first : (w : Bool) → has_bit y (i % 8) ≡ w → (k : ℕ) (d : Bool)
        → k < 1 → has_bit y (i % 8 + k) ≡ get_or (w ∷ []) k d
    first w e zero d l = ap (has_bit y) (add-zero (i % 8)) ∙ e
    first w e (suc k) d l = absurd (omega arith)

-- a bit is set
pub Writes_set : (b : List ℕ) (i : ℕ) → i / 8 < length b
    → Writes b (set b (i / 8) (bit_or (get_or b (i / 8) 0) (1 * 2 ^ (i % 8) % 256))) i (true ∷ [])
Writes_set b i h =
    let small : i % 8 < 8 = omega arith in
    let x = get_or b (i / 8) 0 in
    Writes-bit b i _ true h (ap (λ d. eqb d 1) (bit_at_set_same w8 x (i % 8) small))
    (λ j l ne. bit_at_set_other w8 x (i % 8) small j ne)

-- a bit is unset
pub Writes_unset : (b : List ℕ) (i : ℕ) → i / 8 < length b → Writes b
    (set b (i / 8) (bit_and (get_or b (i / 8) 0) (255 - 1 * 2 ^ (i % 8) % 256))) i (false ∷ [])
Writes_unset b i h =
    let small : i % 8 < 8 = omega arith in
    let x = get_or b (i / 8) 0 in
    Writes-bit b i _ false h (ap (λ d. eqb d 1) (bit_at_clear_same w8 x (i % 8) small))
    (λ j l ne. bit_at_clear_other w8 x (i % 8) small j l ne)

-- a digit is cleared, then v is written there
put_digit : (b : List ℕ) (i : ℕ) (v : Bool) → i / 8 < length b
    → Writes b (set b (i / 8) (bit_or (bit_and (get_or b (i / 8) 0) (255 - 1 * 2 ^ (i % 8) % 256))
    (from_bool v * 2 ^ (i % 8) % 256))) i (v ∷ [])
put_digit b i true h =
    let small : i % 8 < 8 = omega arith in
    let x = get_or b (i / 8) 0 in
    let rest = bit_and x (255 - 1 * 2 ^ (i % 8) % 256) in
    Writes-bit b i _ true h
    (ap (λ d. eqb d 1) (bit_at_set_same w8 rest (i % 8) small))
    (λ j l ne. bit_at_set_other w8 rest (i % 8) small j ne
    ∙ bit_at_clear_other w8 x (i % 8) small j l ne)
put_digit b i false h =
    let small : i % 8 < 8 = omega arith in
    let x = get_or b (i / 8) 0 in
    let rest = bit_and x (255 - 1 * 2 ^ (i % 8) % 256) in
    let none : 0 * 2 ^ (i % 8) % 256 ≡ 0 = omega arith in
    let same : bit_or rest (0 * 2 ^ (i % 8) % 256) ≡ rest =
    ap (bit_or rest) none ∙ or_zero_r rest in
    Writes-bit b i _ false h
    (ap (λ y. eqb (bit_at y (i % 8)) 1) same
    ∙ ap (λ d. eqb d 1) (bit_at_clear_same w8 x (i % 8) small))
    (λ j l ne. ap (λ y. bit_at y j) same ∙ bit_at_clear_other w8 x (i % 8) small j l ne)

-- rotating one digit equals shifting it
turned_digit : (v : Bool) (k : ℕ) → k < 8
    → rotate_left w8 (from_bool v) k ≡ from_bool v * 2 ^ k % 256
turned_digit true zero h = refl
turned_digit true (suc zero) h = refl
turned_digit true (suc (suc zero)) h = refl
turned_digit true (suc (suc (suc zero))) h = refl
turned_digit true (suc (suc (suc (suc zero)))) h = refl
turned_digit true (suc (suc (suc (suc (suc zero))))) h = refl
turned_digit true (suc (suc (suc (suc (suc (suc zero)))))) h = refl
turned_digit true (suc (suc (suc (suc (suc (suc (suc zero))))))) h = refl
turned_digit false zero h = refl
turned_digit false (suc zero) h = refl
turned_digit false (suc (suc zero)) h = refl
turned_digit false (suc (suc (suc zero))) h = refl
turned_digit false (suc (suc (suc (suc zero)))) h = refl
turned_digit false (suc (suc (suc (suc (suc zero))))) h = refl
turned_digit false (suc (suc (suc (suc (suc (suc zero)))))) h = refl
turned_digit false (suc (suc (suc (suc (suc (suc (suc zero))))))) h = refl
turned_digit v (suc (suc (suc (suc (suc (suc (suc (suc k)))))))) h = absurd (omega (arith, h))

pub Writes_put : (b : List ℕ) (i y z : ℕ) (v : Bool) → y ≡ from_bool v
    → z ≡ rotate_left w8 y (i % 8) → i / 8 < length b
    → Writes b (set b (i / 8) (bit_or (bit_and (get_or b (i / 8) 0) (255 - 1 * 2 ^ (i % 8) % 256))
    z)) i (v ∷ [])
Writes_put b i y z v e f h =
    let shifted : z ≡ from_bool v * 2 ^ (i % 8) % 256 =
    f ∙ ap (λ d. rotate_left w8 d (i % 8)) e ∙ turned_digit v (i % 8) (omega arith) in
    rw shifted (put_digit b i v h)

-- ---- masks of one byte
-- a mask of a byte
pub mask_fits : (lo hi : ℕ) → hi ≤ 8 → 2 ^ hi - 2 ^ lo < 2 ^ 8
mask_fits lo hi wide =
    let within : 2 ^ hi ≤ 2 ^ 8 = pow_mono wide in
    let some : 0 < 2 ^ lo = pow_pos lo in
    omega arith

-- the mask of ones from lo up to hi has no digit outside
mask_outside : (lo hi i : ℕ) → (i < lo) ⊎ (hi ≤ i) → bit_at (2 ^ hi - 2 ^ lo) i ≡ 0
mask_outside lo hi i (inl h) = bit_at_mask_below lo hi i h
mask_outside lo hi i (inr h) = bit_at_mask_above lo hi i h

-- the bits under a mask are set
pub Writes_or_mask : (b : List ℕ) (o n : ℕ) → o % 8 + n ≤ 8 → o / 8 < length b → Writes b (set b
    (o / 8) (bit_or (get_or b (o / 8) 0) (2 ^ (o % 8 + n) - 2 ^ (o % 8)))) o (replicate n true)
Writes_or_mask b o n within there =
    let x : ℕ = get_or b (o / 8) 0 in let lo : ℕ = o % 8 in let hi : ℕ = o % 8 + n in
    let long : length (replicate n true) ≡ n = length-replicate n true in
    let low : (r : ℕ) → bit_at x r < 2 = bit_at-lt x in
    Writes-in_byte b o _ (replicate n true) (omega arith) there
    (λ i d l.
    let one : bit_at (2 ^ hi - 2 ^ lo) (lo + i) ≡ 1 =
    bit_at_mask_inside lo hi (lo + i) (omega arith) (omega arith) in
    let all : max (bit_at x (lo + i)) (bit_at (2 ^ hi - 2 ^ lo) (lo + i)) ≡ 1 =
    omega (arith, low (lo + i)) in
    ap (λ z. eqb z 1) (bit_at_or x (2 ^ hi - 2 ^ lo) (lo + i) ∙ all)
    ∙ sym (get_or-replicate n i true d (omega arith)))
    (λ r l h.
    let none = mask_outside lo hi r (elim h [ inl a ↦ inl a | inr a ↦ inr (omega arith) ]) in
    let same : max (bit_at x r) (bit_at (2 ^ hi - 2 ^ lo) r) ≡ bit_at x r = omega arith in
    ap (λ z. eqb z 1) (bit_at_or x (2 ^ hi - 2 ^ lo) r ∙ same))

-- a digit of a byte under a negated mask
not_mask : (x m i : ℕ)
    → m < 2 ^ 8 → i < 8 → bit_at (bit_and x (bit_not w8 m)) i ≡ min (bit_at x i) (1 - bit_at m i)
not_mask x m i small h =
    bit_at_and x (bit_not w8 m) i ∙ ap (λ z. min (bit_at x i) z) (bit_at_not w8 m i small h)

-- the bits under a mask are unset
pub Writes_and_mask : (b : List ℕ) (o n : ℕ) → o % 8 + n ≤ 8 → o / 8 < length b → Writes b
    (set b (o / 8) (bit_and (get_or b (o / 8) 0) (bit_not w8 (2 ^ (o % 8 + n) - 2 ^ (o % 8))))) o
    (replicate n false)
Writes_and_mask b o n within there =
    let x : ℕ = get_or b (o / 8) 0 in let lo : ℕ = o % 8 in let hi : ℕ = o % 8 + n in
    let long : length (replicate n false) ≡ n = length-replicate n false in
    let small : 2 ^ hi - 2 ^ lo < 2 ^ 8 = mask_fits lo hi within in
    let low : (r : ℕ) → bit_at x r < 2 = bit_at-lt x in
    Writes-in_byte b o _ (replicate n false) (omega arith) there
    (λ i d l.
    let one : bit_at (2 ^ hi - 2 ^ lo) (lo + i) ≡ 1 =
    bit_at_mask_inside lo hi (lo + i) (omega arith) (omega arith) in
    let none : min (bit_at x (lo + i)) (1 - bit_at (2 ^ hi - 2 ^ lo) (lo + i)) ≡ 0 = omega arith in
    ap (λ z. eqb z 1) (not_mask x (2 ^ hi - 2 ^ lo) (lo + i) small (omega arith) ∙ none)
    ∙ sym (get_or-replicate n i false d (omega arith)))
    (λ r l h.
    let none = mask_outside lo hi r (elim h [ inl a ↦ inl a | inr a ↦ inr (omega arith) ]) in
    let same : min (bit_at x r) (1 - bit_at (2 ^ hi - 2 ^ lo) r) ≡ bit_at x r =
    omega (arith, low r) in
    ap (λ z. eqb z 1) (not_mask x (2 ^ hi - 2 ^ lo) r small l ∙ same))

-- a bit of a window within one byte
at-bits_in_byte : (b : List ℕ) (o n i : ℕ) (d : Bool)
    → o % 8 + n ≤ 8 → i < n → get_or (bits b o n) i d ≡ has_bit (get_or b (o / 8) 0) (o % 8 + i)
at-bits_in_byte b o n i d within h =
    let byte : (o + i) / 8 ≡ o / 8 = omega arith in
    let digit : (o + i) % 8 ≡ o % 8 + i = omega arith in
    at-bits b o n i d h ∙ ap (λ j. has_bit (get_or b j 0) ((o + i) % 8)) byte
    ∙ ap (has_bit (get_or b (o / 8) 0)) digit

-- a flipped digit
flipped : (x : ℕ) → x < 2 → eqb ((x + 1) % 2) 1 ≡ not (eqb x 1)
flipped zero h = refl
flipped (suc zero) h = refl
flipped (suc (suc x)) h = absurd (omega arith)

-- the bits under a mask are negated
pub Writes_xor_mask : (b : List ℕ) (o n : ℕ) → o % 8 + n ≤ 8 → o / 8 < length b → Writes b (set b
    (o / 8) (bit_xor (get_or b (o / 8) 0) (2 ^ (o % 8 + n) - 2 ^ (o % 8)))) o
    (complement (bits b o n))
Writes_xor_mask b o n within there =
    let x : ℕ = get_or b (o / 8) 0 in let lo : ℕ = o % 8 in let hi : ℕ = o % 8 + n in
    let long : length (complement (bits b o n)) ≡ n =
    length-map (bits b o n) not ∙ length-bits b o n in
    let size = length-bits b o n in
    let low : (r : ℕ) → bit_at x r < 2 = bit_at-lt x in
    Writes-in_byte b o _ (complement (bits b o n)) (omega arith) there
    (λ i d l.
    let one : bit_at (2 ^ hi - 2 ^ lo) (lo + i) ≡ 1 =
    bit_at_mask_inside lo hi (lo + i) (omega arith) (omega arith) in
    ap (λ z. eqb z 1)
    (bit_at_xor x (2 ^ hi - 2 ^ lo) (lo + i) ∙ ap (λ z. (bit_at x (lo + i) + z) % 2) one)
    ∙ flipped (bit_at x (lo + i)) (low (lo + i))
    ∙ sym (get_or-map not (bits b o n) i d d (omega arith)
    ∙ ap not (at-bits_in_byte b o n i d within (omega arith))))
    (λ r l h.
    let none = mask_outside lo hi r (elim h [ inl a ↦ inl a | inr a ↦ inr (omega arith) ]) in
    let same : (bit_at x r + bit_at (2 ^ hi - 2 ^ lo) r) % 2 ≡ bit_at x r = omega (arith, low r) in
    ap (λ z. eqb z 1) (bit_at_xor x (2 ^ hi - 2 ^ lo) r ∙ same))

-- the bits under a mask are the lowest digits of a number
pub Writes_masked : (b : List ℕ) (o n w : ℕ) → o % 8 + n ≤ 8 → o / 8 < length b
    → Writes b (set b (o / 8)
    (bit_or (bit_and (get_or b (o / 8) 0) (bit_not w8 (2 ^ (o % 8 + n) - 2 ^ (o % 8)))) (bit_and
    (bit_and (w * 2 ^ (o % 8) % 2 ^ 64) 255) (2 ^ (o % 8 + n) - 2 ^ (o % 8))))) o (digits w 0 n)
Writes_masked b o n w within there =
    let x : ℕ = get_or b (o / 8) 0 in let lo : ℕ = o % 8 in let hi : ℕ = o % 8 + n in
    let m : ℕ = 2 ^ hi - 2 ^ lo in
    let y : ℕ = bit_and (w * 2 ^ lo % 2 ^ 64) 255 in
    let long : length (digits w 0 n) ≡ n = length-digits w 0 n in
    let small : m < 2 ^ 8 = mask_fits lo hi within in
    let low : (z r : ℕ) → bit_at z r < 2 = bit_at-lt in
    let parts : (r : ℕ) → r < 8 → bit_at (bit_or (bit_and x (bit_not w8 m)) (bit_and y m)) r
    ≡ max (min (bit_at x r) (1 - bit_at m r)) (min (bit_at y r) (bit_at m r)) =
    λ r l. bit_at_or (bit_and x (bit_not w8 m)) (bit_and y m) r
    ∙ ap (λ z. max z (bit_at (bit_and y m) r)) (not_mask x m r small l)
    ∙ ap (max (min (bit_at x r) (1 - bit_at m r))) (bit_at_and y m r) in
    Writes-in_byte b o _ (digits w 0 n) (omega arith) there
    (λ i d l.
    let one : bit_at m (lo + i) ≡ 1 =
    bit_at_mask_inside lo hi (lo + i) (omega arith) (omega arith) in
    let all : bit_at 255 (lo + i) ≡ 1 =
    bit_at_mask_inside 0 8 (lo + i) (omega arith) (omega arith) in
    let digit : bit_at (w * 2 ^ lo % 2 ^ 64) (lo + i) ≡ bit_at w i =
    bit_at_cut (w * 2 ^ lo) 64 (lo + i) (omega arith)
    ∙ shl_high w lo (lo + i) (omega arith) ∙ ap (bit_at w) (place i) in
    let here : max (min (bit_at x (lo + i)) (1 - bit_at m (lo + i)))
    (min (bit_at y (lo + i)) (bit_at m (lo + i))) ≡ bit_at w i =
    omega (arith, low w i, bit_at_and (w * 2 ^ lo % 2 ^ 64) 255 (lo + i)) in
    ap (λ z. eqb z 1) (parts (lo + i) (omega arith) ∙ here) ∙ ap (has_bit w) (sym (zero-add i))
    ∙ sym (at-digits w 0 n i d (omega arith)))
    (λ r l h.
    let none : bit_at m r ≡ 0 =
    mask_outside lo hi r (elim h [ inl a ↦ inl a | inr a ↦ inr (omega arith) ]) in
    let here : max (min (bit_at x r) (1 - bit_at m r)) (min (bit_at y r) (bit_at m r))
    ≡ bit_at x r = omega (arith, low x r) in
    ap (λ z. eqb z 1) (parts r l ∙ here))
  where
    place : (i : ℕ) → o % 8 + i - o % 8 ≡ i
    place i = omega arith
