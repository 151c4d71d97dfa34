-- The bits of bytes that were read.
use Rattle.std.proofs.Common.{◌≡◌, ℕ, zero, suc, ◌+◌, ◌-◌, ◌*◌, ◌/◌, ◌%◌, ◌^◌, ◌<◌, ◌≤◌, List, []}
use Rattle.std.proofs.Common.{◌∷◌, get_or, take, drop, refl, sym, ap, ◌∙◌, arith, zero-add}
use Rattle.std.specs.Prelude.{slice_range}
use Rattle.std.specs.Int.{to_le_bytes, w64, bytes_low_first, byte_at}
use Rattle.std.proofs.lemmas.List.{get_or-drop, get_or-take}
use Rattle.std.proofs.lemmas.Nat.{pow-add}
use Rattle.std.proofs.Math.Nat.{pow-suc, div-one}
use Rattle.vb_bits.specs.Bits.{bit_of, bits}
use Rattle.vb_bits.specs.Digits.{has_bit, digits}
use Rattle.vb_bits.proofs.BitsLemmas.{same_bits}
use Rattle.vb_bits.proofs.RangeLemmas.{same_map-range_with_len}
use Rattle.vb_bits.proofs.DigitsLemmas.{has_bit_part}

-- a window whose bits are the digits of a number
pub bits-digits : (b : List ℕ) (o w a n : ℕ)
    → ((i : ℕ) → i < n → bit_of b (o + i) ≡ has_bit w (a + i)) → bits b o n ≡ digits w a n
unfolding bits digits
bits-digits b o w a n h = same_map-range_with_len (bit_of b) (has_bit w) o a n h

-- bits of a byte alone
pub bits_of_byte : (x a n : ℕ) → a + n ≤ 8 → bits (x ∷ []) a n ≡ digits x a n
bits_of_byte x a n within =
    bits-digits (x ∷ []) a x a n
    (λ i h.
    let byte : (a + i) / 8 ≡ 0 = omega arith in
    let place : (a + i) % 8 ≡ a + i = omega arith in
    ap (λ j. has_bit (get_or (x ∷ []) j 0) ((a + i) % 8)) byte ∙ ap (has_bit x) place)

-- bits of a byte that was read
pub bits_of_read_byte : (b : List ℕ) (x o n : ℕ)
    → x ≡ get_or b (o / 8) 0 → o % 8 + n ≤ 8 → bits (x ∷ []) (o % 8) n ≡ bits b o n
bits_of_read_byte b x o n read within =
    same_bits (x ∷ []) b (o % 8) o n
    (λ i h.
    let alone : (o % 8 + i) / 8 ≡ 0 = omega arith in
    let byte : (o + i) / 8 ≡ o / 8 = omega arith in
    let place : (o + i) % 8 ≡ (o % 8 + i) % 8 = omega arith in
    ap (λ j. has_bit (get_or (x ∷ []) j 0) ((o % 8 + i) % 8)) alone
    ∙ ap (λ y. has_bit y ((o % 8 + i) % 8)) read
    ∙ sym (ap (λ j. has_bit (get_or b j 0) ((o + i) % 8)) byte
    ∙ ap (has_bit (get_or b (o / 8) 0)) place))

-- a run of bytes as a separate list
pub bits-slice_range : (b : List ℕ) (a m : ℕ)
    → bits (slice_range b a (a + m)) 0 (8 * m) ≡ bits b (8 * a) (8 * m)
bits-slice_range b a m =
    let long : a + m - a ≡ m = omega arith in
    ap (λ n. bits (take n (drop a b)) 0 (8 * m)) long
    ∙ same_bits (take m (drop a b)) b 0 (8 * a) (8 * m)
    (λ i h.
    let byte : (8 * a + i) / 8 ≡ a + i / 8 = omega arith in
    let place : (8 * a + i) % 8 ≡ i % 8 = omega arith in
    ap (bit_of (take m (drop a b))) (zero-add i) ∙ ap (λ x. has_bit x (i % 8))
    (get_or-take m (drop a b) (i / 8) 0 (omega arith) ∙ get_or-drop a b (i / 8) 0)
    ∙ sym (ap (λ j. has_bit (get_or b j 0) ((8 * a + i) % 8)) byte
    ∙ ap (has_bit (get_or b (a + i / 8) 0)) place))

-- bits of bytes that were read, if the source is unchanged
pub bits_of_read : (b c xs : List ℕ) (a m o : ℕ)
    → c ≡ b → xs ≡ slice_range c a (a + m) → o ≡ 8 * a → bits xs 0 (8 * m) ≡ bits b o (8 * m)
bits_of_read b c xs a m o same read at =
    ap (λ l. bits l 0 (8 * m)) read ∙ bits-slice_range c a m
    ∙ ap (λ l. bits l (8 * a) (8 * m)) same ∙ ap (λ x. bits b x (8 * m)) (sym at)

-- ---- the bytes of a word
-- byte j of the k bytes of a number from byte a on
get_or-bytes_low_first : (a k n j : ℕ)
    → j < k → get_or (bytes_low_first a k n) j 0 ≡ byte_at (a + j) n
get_or-bytes_low_first a zero n j h = absurd (omega arith)
get_or-bytes_low_first a (suc k) n zero h = let z : a + 0 ≡ a = omega arith in
    ap (λ x. byte_at x n) (sym z)
get_or-bytes_low_first a (suc k) n (suc j) h =
    let z : suc a + j ≡ a + suc j = omega arith in
    get_or-bytes_low_first (suc a) k n j (omega arith) ∙ ap (λ x. byte_at x n) z

-- a power of 256 is a power of 2
pow_256 : (k : ℕ) → 256 ^ k ≡ 2 ^ (8 * k)
pow_256 zero = refl
pow_256 (suc k) = let e : 8 * k + 8 ≡ 8 * suc k = omega arith in
    pow-suc 256 k ∙ ap (λ x. x * 256) (pow_256 k) ∙ sym (pow-add 2 (8 * k) 8) ∙ ap (λ x. 2 ^ x) e

-- a byte of a number is a quotient cut to 8 digits
byte_at_part : (j n : ℕ) → byte_at j n ≡ n / 2 ^ (8 * j) % 2 ^ 8
byte_at_part zero n = ap (λ x. x % 256) (sym (div-one n))
byte_at_part (suc j) n = ap (λ x. n / x % 256) (pow_256 (suc j))

-- a bit of a number's bytes is a digit of the number
bit_of-bytes_low_first : (k w i : ℕ)
    → i < 8 * k → bit_of (bytes_low_first 0 k w) i ≡ has_bit w i
bit_of-bytes_low_first k w i h =
    let e : 8 * (i / 8) + i % 8 ≡ i = omega arith in
    ap (λ x. has_bit x (i % 8)) (get_or-bytes_low_first 0 k w (i / 8) (omega arith)
    ∙ ap (λ x. byte_at x w) (zero-add (i / 8)) ∙ byte_at_part (i / 8) w)
    ∙ has_bit_part w (8 * (i / 8)) 8 (i % 8) (omega arith) ∙ ap (has_bit w) e

-- the bits of a number's bytes are its digits
pub bits-bytes_low_first : (k w a n : ℕ)
    → a + n ≤ 8 * k → bits (bytes_low_first 0 k w) a n ≡ digits w a n
bits-bytes_low_first k w a n within = bits-digits (bytes_low_first 0 k w) a w a n
    (λ i h. bit_of-bytes_low_first k w (a + i) (omega arith))

-- the bits of a word's bytes are its digits
pub bits-to_le_bytes : (w a n : ℕ) → a + n ≤ 64 → bits (to_le_bytes w64 w) a n ≡ digits w a n
bits-to_le_bytes w a n within = bits-bytes_low_first 8 w a n within
