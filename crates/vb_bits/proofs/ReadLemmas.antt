-- Numbers whose digits are the bits of a window.
use Rattle.std.proofs.Common.{◌≡◌, inl, inr, ℕ, ◌+◌, ◌-◌, ◌*◌, ◌/◌, ◌%◌, ◌^◌, ◌<◌, ◌≤◌, Bool, true}
use Rattle.std.proofs.Common.{false, ◌||◌, eqb, max, List, length, get_or, drop, refl}
use Rattle.std.proofs.Common.{sym, ap, ◌∙◌, arith, zero-add}
use Rattle.std.specs.Prelude.{slice_range}
use Rattle.std.specs.Int.{bit_at, w64, to_le_bytes, bytes_low_first}
use Rattle.std.specs.Int.Bits.{bit_or}
use Rattle.std.proofs.lemmas.Bool.{cases_lt}
use Rattle.std.proofs.lemmas.List.{get_or_past}
use Rattle.std.proofs.lemmas.Nat.{shr-shr}
use Rattle.std.proofs.lemmas.Nat.Bits.{bit_at-lt, bit_at_or, bit_at_above}
use Rattle.vb_bits.specs.Bits.{bit_of, bits}
use Rattle.vb_bits.specs.Digits.{has_bit, digits}
use Rattle.vb_bits.proofs.BitsLemmas.{at-bits, same_bits}
use Rattle.vb_bits.proofs.DigitsLemmas.{at-digits, same_digits, has_bit-or}
use Rattle.vb_bits.proofs.BytesLemmas.{bits-digits, bits-to_le_bytes, bits-bytes_low_first}
use Rattle.vb_bits.proofs.BytesLemmas.{bits_of_read}
use Rattle.vb_bits.proofs.ShiftLemmas.{has_bit_shr, shl_low, shl_high, bit_at_cut}
use Rattle.vb_bits.proofs.WindowLemmas.{bit_of-drop, digits-clear}

-- a digit of a number whose digits are a window
pub has_bit-bits : (b : List ℕ) (w o n i : ℕ)
    → digits w 0 n ≡ bits b o n → i < n → has_bit w i ≡ bit_of b (o + i)
has_bit-bits b w o n i e h =
    ap (has_bit w) (sym (zero-add i))
    ∙ sym (at-digits w 0 n i false h) ∙ ap (λ l. get_or l i false) e ∙ at-bits b o n i false h

-- a number whose digits are a window, given digit by digit
pub digits-bits : (b : List ℕ) (w o n : ℕ)
    → ((i : ℕ) → i < n → has_bit w i ≡ bit_of b (o + i)) → digits w 0 n ≡ bits b o n
digits-bits b w o n h =
    sym (bits-digits b o w 0 n (λ i l. sym (h i l) ∙ ap (has_bit w) (sym (zero-add i))))

-- fewer of the digits
pub digits_front : (b : List ℕ) (w o n k : ℕ)
    → digits w 0 n ≡ bits b o n → k ≤ n → digits w 0 k ≡ bits b o k
digits_front b w o n k e h =
    digits-bits b w o k (λ i l. has_bit-bits b w o n i e (omega arith))

-- the digits from digit m on
pub digits_inside : (b : List ℕ) (w o n m k p : ℕ) → digits w 0 n ≡ bits b o n → p ≡ o + m
    → m + k ≤ n → digits (w / 2 ^ m) 0 k ≡ bits b p k
digits_inside b w o n m k p e at within =
    digits-bits b (w / 2 ^ m) p k (λ i l.
    let place : o + (m + i) ≡ p + i = omega arith in
    has_bit_shr w m i ∙ has_bit-bits b w o n (m + i) e (omega arith) ∙ ap (bit_of b) place)

-- a word that was read
pub digits_of_word : (b : List ℕ) (w a : ℕ)
    → to_le_bytes w64 w ≡ slice_range b a (a + 8) → digits w 0 64 ≡ bits b (8 * a) 64
digits_of_word b w a read = sym (bits-to_le_bytes w 0 64 (omega arith))
    ∙ bits_of_read b b (to_le_bytes w64 w) a 8 (8 * a) refl read refl

-- a number of k bytes that was read
pub digits_of_number : (b : List ℕ) (w a k : ℕ)
    → bytes_low_first 0 k w ≡ slice_range b a (a + k) → digits w 0 (8 * k) ≡ bits b (8 * a) (8 * k)
digits_of_number b w a k read = sym (bits-bytes_low_first k w 0 (8 * k) (omega arith))
    ∙ bits_of_read b b (bytes_low_first 0 k w) a k (8 * a) refl read refl

-- ---- windows that start within a byte
-- a window that starts within the first byte of a number of z digits and ends within them
pub digits_shifted : (b : List ℕ) (z f s n w at : ℕ) → digits w 0 z ≡ bits b (8 * f) z
    → at ≡ 8 * f + s → s + n ≤ z → digits (w / 2 ^ s) 0 n ≡ bits b at n
digits_shifted b z f s n w at e from within = digits_inside b w (8 * f) z s n at e from within

-- a window that ends in the byte after a number of k bytes
pub digits_joined : (b : List ℕ) (k f s n w at : ℕ)
    → digits w 0 (8 * k) ≡ bits b (8 * f) (8 * k) → at ≡ 8 * f + s → w < 2 ^ (8 * k) → s < 8
    → n ≤ 8 * k → k ≤ 8
    → digits (bit_or (w / 2 ^ s) (get_or b (f + k) 0 * 2 ^ (8 * k - s) % 2 ^ 64)) 0 n ≡ bits b at n
digits_joined b k f s n w at e from fits small within most =
    let x : ℕ = get_or b (f + k) 0 in
    let z : ℕ = 8 * k in
    digits-bits b (bit_or (w / 2 ^ s) (x * 2 ^ (z - s) % 2 ^ 64)) at n (λ i l.
    let cut : bit_at (x * 2 ^ (z - s) % 2 ^ 64) i ≡ bit_at (x * 2 ^ (z - s)) i =
    bit_at_cut (x * 2 ^ (z - s)) 64 i (omega arith) in
    let moved : bit_at (w / 2 ^ s) i ≡ bit_at w (s + i) = ap (λ y. y % 2) (shr-shr w s i) in
    let digit : bit_at w (s + i) < 2 = bit_at-lt w (s + i) in
    ap (λ y. eqb y 1) (bit_at_or (w / 2 ^ s) (x * 2 ^ (z - s) % 2 ^ 64) i)
    ∙ elim (cases_lt (s + i) z) [
      | inl low ↦
          let none : bit_at (x * 2 ^ (z - s)) i ≡ 0 = shl_low x (z - s) i (omega arith) in
          let here : max (bit_at (w / 2 ^ s) i) (bit_at (x * 2 ^ (z - s) % 2 ^ 64) i)
          ≡ bit_at w (s + i) = omega arith in
          let place : 8 * f + (s + i) ≡ at + i = omega arith in
          ap (λ y. eqb y 1) here ∙ has_bit-bits b w (8 * f) z (s + i) e low ∙ ap (bit_of b) place
      | inr high ↦
          let none : bit_at w (s + i) ≡ 0 = bit_at_above w z (s + i) fits high in
          let there : bit_at (x * 2 ^ (z - s)) i ≡ bit_at x (i - (z - s)) =
          shl_high x (z - s) i (omega arith) in
          let here : max (bit_at (w / 2 ^ s) i) (bit_at (x * 2 ^ (z - s) % 2 ^ 64) i)
          ≡ bit_at x (i - (z - s)) = omega arith in
          let byte : (at + i) / 8 ≡ f + k = omega arith in
          let place : (at + i) % 8 ≡ i - (z - s) = omega arith in
          ap (λ y. eqb y 1) here
          ∙ sym (ap (λ j. has_bit (get_or b j 0) ((at + i) % 8)) byte ∙ ap (has_bit x) place)
    ])

-- a byte
pub digits_of_byte : (b : List ℕ) (f : ℕ) → digits (get_or b f 0) 0 8 ≡ bits b (8 * f) 8
digits_of_byte b f =
    let x : ℕ = get_or b f 0 in
    digits-bits b x (8 * f) 8 (λ i l.
    let byte : (8 * f + i) / 8 ≡ f = omega arith in
    let place : (8 * f + i) % 8 ≡ i = omega arith in
    sym (ap (λ j. has_bit (get_or b j 0) ((8 * f + i) % 8)) byte ∙ ap (has_bit x) place))

-- ---- numbers of which one or both have a digit
or_false : (x : Bool) → (x || false) ≡ x
or_false true = refl
or_false false = refl

or_self : (x : Bool) → (x || x) ≡ x
or_self true = refl
or_self false = refl

either_left : {x y t : Bool} → x ≡ t → y ≡ false → (x || y) ≡ t
either_left {x} {y} {t} e none = ap (λ z. x || z) none ∙ or_false x ∙ e

either_same : {x y t : Bool} → x ≡ t → y ≡ t → (x || y) ≡ t
either_same {x} {y} {t} e f = ap (λ z. z || y) e ∙ ap (λ z. t || z) f ∙ or_self t

either_right : {x y t : Bool} → x ≡ false → y ≡ t → (x || y) ≡ t
either_right {x} {y} {t} none e = ap (λ z. z || y) none ∙ e

-- two words, the second from the next byte on; where they overlap both have the digit
pub digits_overlapped : (b : List ℕ) (f s v w : ℕ) → digits v 0 64 ≡ bits b (8 * f) 64
    → digits w 0 64 ≡ bits b (8 * (f + 1)) 64 → v < 2 ^ 64 → s < 8
    → digits (bit_or (v / 2 ^ s) (w * 2 ^ (8 - s) % 2 ^ 64)) 0 64 ≡ bits b (8 * f + s) 64
digits_overlapped b f s v w first second fits small =
    digits-bits b (bit_or (v / 2 ^ s) (w * 2 ^ (8 - s) % 2 ^ 64)) (8 * f + s) 64 (λ i l.
    let place : 8 * f + (s + i) ≡ 8 * f + s + i = omega arith in
    let low : s + i < 64 → has_bit (v / 2 ^ s) i ≡ bit_of b (8 * f + s + i) = λ h. has_bit_shr v s i
    ∙ has_bit-bits b v (8 * f) 64 (s + i) first h ∙ ap (bit_of b) place in
    let cut : has_bit (w * 2 ^ (8 - s) % 2 ^ 64) i ≡ has_bit (w * 2 ^ (8 - s)) i =
    ap (λ y. eqb y 1) (bit_at_cut (w * 2 ^ (8 - s)) 64 i l) in
    has_bit-or (v / 2 ^ s) (w * 2 ^ (8 - s) % 2 ^ 64) i ∙ elim (cases_lt i (8 - s)) [
      | inl before ↦
          either_left (low (omega arith)) (cut ∙ ap (λ y. eqb y 1) (shl_low w (8 - s) i before))
      | inr behind ↦
          let there : 8 * (f + 1) + (i - (8 - s)) ≡ 8 * f + s + i = omega arith in
          let high : has_bit (w * 2 ^ (8 - s) % 2 ^ 64) i ≡ bit_of b (8 * f + s + i) =
          cut ∙ ap (λ y. eqb y 1) (shl_high w (8 - s) i behind) ∙ has_bit-bits b w (8 * (f + 1)) 64
          (i - (8 - s)) second (omega arith) ∙ ap (bit_of b) there in
          elim (cases_lt (s + i) 64) [
            | inl inside ↦ either_same (low inside) high
            | inr past ↦ either_right (has_bit_shr v s i
                ∙ ap (λ y. eqb y 1) (bit_at_above v 64 (s + i) fits past)) high
          ]
    ])

-- the digits below a cut
pub digits_cut : (w n : ℕ) → digits (w % 2 ^ n) 0 n ≡ digits w 0 n
digits_cut w n = same_digits (w % 2 ^ n) w 0 0 n
    (λ i l. ap (λ y. eqb y 1) (bit_at_cut w n (0 + i) (omega arith)))

-- ---- fewer than eight bytes
-- the bits from byte a on are those of the remaining bytes
pub bits_of_rest : (b : List ℕ) (a n : ℕ) → bits (drop a b) 0 n ≡ bits b (8 * a) n
bits_of_rest b a n = same_bits (drop a b) b 0
    (8 * a) n (λ i l. ap (bit_of (drop a b)) (zero-add i) ∙ bit_of-drop a b i)

-- a bit after the last byte
bit_past : (b : List ℕ) (i : ℕ) → 8 * length b ≤ i → bit_of b i ≡ false
bit_past b i past = ap (λ x. has_bit x (i % 8)) (get_or_past b (i / 8) 0 (omega arith))
    ∙ digits-clear (i % 8)

-- a digit above those of a number
digit_past : (w k i : ℕ) → w < 2 ^ k → k ≤ i → has_bit w i ≡ false
digit_past w k i small past = ap (λ y. eqb y 1) (bit_at_above w k i small past)

-- two numbers of k bytes each, read from the first bytes and from the last bytes; both have the
-- digits where they overlap
pub digits_of_ends : (b : List ℕ) (k n v w : ℕ) → n ≡ length b → k ≤ n → n ≤ 2 * k → n ≤ 8
    → digits v 0 (8 * k) ≡ bits b 0 (8 * k) → digits w 0 (8 * k) ≡ bits b (8 * (n - k)) (8 * k)
    → v < 2 ^ (8 * k) → w < 2 ^ (8 * k)
    → digits (bit_or v (w * 2 ^ (8 * (n - k)) % 2 ^ 64)) 0 64 ≡ bits b 0 64
digits_of_ends b k n v w size from to most first last smaller small =
    let s : ℕ = 8 * (n - k) in
    digits-bits b (bit_or v (w * 2 ^ s % 2 ^ 64)) 0 64 (λ i l.
    let low : i < 8 * k → has_bit v i ≡ bit_of b (0 + i) = λ h. has_bit-bits b v 0 (8 * k) i first
    h in
    let cut : has_bit (w * 2 ^ s % 2 ^ 64) i ≡ has_bit (w * 2 ^ s) i =
    ap (λ y. eqb y 1) (bit_at_cut (w * 2 ^ s) 64 i l) in
    has_bit-or v (w * 2 ^ s % 2 ^ 64) i ∙ elim (cases_lt i s) [
      | inl before ↦
          either_left (low (omega arith)) (cut ∙ ap (λ y. eqb y 1) (shl_low w s i before))
      | inr behind ↦
          let moved : has_bit (w * 2 ^ s % 2 ^ 64) i ≡ has_bit w (i - s) =
          cut ∙ ap (λ y. eqb y 1) (shl_high w s i behind) in
          elim (cases_lt i (8 * n)) [
            | inl inside ↦
                let there : 8 * (n - k) + (i - s) ≡ 0 + i = omega arith in
                let high : has_bit (w * 2 ^ s % 2 ^ 64) i ≡ bit_of b (0 + i) =
                moved ∙ has_bit-bits b w (8 * (n - k)) (8 * k) (i - s) last (omega arith)
                ∙ ap (bit_of b) there in
                elim (cases_lt i (8 * k)) [
                  | inl both ↦ either_same (low both) high
                  | inr one ↦ either_right (digit_past v (8 * k) i smaller one) high
                ]
            | inr past ↦ either_left (digit_past v (8 * k) i smaller (omega arith)
                ∙ sym (bit_past b (0 + i) (omega arith)))
                (moved ∙ digit_past w (8 * k) (i - s) small (omega arith))
          ]
    ])

-- one byte
pub digits_of_one : (b : List ℕ) → length b ≡ 1 → get_or b 0 0 < 2 ^ 8
    → digits (get_or b 0 0) 0 64 ≡ bits b 0 64
digits_of_one b one small =
    let x : ℕ = get_or b 0 0 in
    digits-bits b x 0 64 (λ i l. elim (cases_lt i 8) [
      | inl here ↦ has_bit-bits b x 0 8 i (digits_of_byte b 0) here
      | inr past ↦ digit_past x 8 i small past ∙ sym (bit_past b (0 + i) (omega arith))
    ])

-- no byte
pub digits_of_no_byte : (b : List ℕ) → length b ≡ 0 → digits 0 0 64 ≡ bits b 0 64
digits_of_no_byte b none = digits-bits b 0 0 64
    (λ i l. digits-clear i ∙ sym (bit_past b (0 + i) (omega arith)))
