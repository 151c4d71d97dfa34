-- Parts of windows, and windows of bytes that were appended to, cut off or repeated.
use Rattle.std.proofs.Common.{◌≡◌, ℕ, ◌+◌, ◌-◌, ◌*◌, ◌/◌, ◌%◌, ◌<◌, ◌≤◌, Bool, true, false, eqb}
use Rattle.std.proofs.Common.{List, [], ◌∷◌, ◌++◌, length, get_or, take, drop, replicate}
use Rattle.std.proofs.Common.{slice_range, slice_get, Some, ap, sym, ◌∙◌, arith, refl}
use Rattle.std.proofs.lemmas.List.{same_lists, length-take, length-drop, length-replicate}
use Rattle.std.proofs.lemmas.List.{get_or-take, get_or-drop, get_or-replicate, get_or_append_left}
use Rattle.std.proofs.lemmas.List.{get_or-append_right, drop-drop, take_all}
use Rattle.std.proofs.lemmas.Option.{slice_get-get_or}
use Rattle.std.proofs.Math.Seq.{take-add}
use Rattle.std.proofs.lemmas.Nat.Bits.{bit_at_ones, bit_at-zero}
use Rattle.vb_bits.specs.Bits.{bit_of, bits, count}
use Rattle.vb_bits.specs.Digits.{has_bit}
use Rattle.vb_bits.specs.Writes.{extension}
use Rattle.vb_bits.proofs.BitsLemmas.{length-bits, at-bits, take-bits, bits_none, same_bits}
use Rattle.vb_bits.proofs.BitsLemmas.{count-append, count-complement, count-le}

-- ---- parts of a window
-- no bits
pub bits-empty : (b : List ℕ) (o n : ℕ) → n ≡ 0 → bits b o n ≡ []
bits-empty b o n e = ap (bits b o) e ∙ bits_none b o

-- the bit at an index
pub slice_get-bits : (b : List ℕ) (o n i : ℕ)
    → i < n → slice_get (bits b o n) i ≡ Some (bit_of b (o + i))
slice_get-bits b o n i h =
    slice_get-get_or (bits b o n) i (bit_of b (o + i)) (omega (arith, length-bits b o n))
    ∙ ap Some (at-bits b o n i (bit_of b (o + i)) h)

-- a part is a window
pub bits-part : (b : List ℕ) (o n i j : ℕ)
    → i ≤ j → j ≤ n → bits b (o + i) (j - i) ≡ slice_range (bits b o n) i j
bits-part b o n i j h le =
    same_lists _ _
    (omega (
      arith,
      length-bits b (o + i) (j - i),
      length-bits b o n,
      length-take (j - i) (drop i (bits b o n)),
      length-drop i (bits b o n),
    ))
    (λ k d l.
    let within : k < j - i = omega (arith, length-bits b (o + i) (j - i)) in
    let place : o + i + k ≡ o + (i + k) = omega arith in
    at-bits b (o + i) (j - i) k d within ∙ ap (bit_of b) place
    ∙ sym (get_or-take (j - i) (drop i (bits b o n)) k d within
    ∙ get_or-drop i (bits b o n) k d ∙ at-bits b o n (i + k) d (omega arith)))

-- a part's count, cut in two
pub count_parts : (l : List Bool) (i j k n : ℕ) → n ≡ count (slice_range l i k)
    → i ≤ j → j ≤ k → n ≡ count (slice_range l i j) + count (slice_range l j k)
count_parts l i j k n e h le =
    let whole : k - i ≡ (j - i) + (k - j) = omega arith in
    let rest : i + (j - i) ≡ j = omega arith in
    let d = drop i l in
    e ∙ ap (λ n. count (take n d)) whole
    ∙ ap count (take-add (j - i) (k - j) d)
    ∙ count-append (take (j - i) d) (take (k - j) (drop (j - i) d))
    ∙ ap (λ x. count (take (j - i) d) + count (take (k - j) x))
    (drop-drop (j - i) i l ∙ ap (λ n. drop n l) rest)

-- ---- bytes appended, cut off, left out
-- a bit of the bytes in front
pub bit_of-append : (b x : List ℕ) (k : ℕ) → k < 8 * length b → bit_of (b ++ x) k ≡ bit_of b k
bit_of-append b x k h = ap (λ y. has_bit y (k % 8)) (get_or_append_left b x 0 (k / 8) (omega arith))

-- a bit of the first m bytes
bit_of-take : (m : ℕ) (b : List ℕ) (k : ℕ) → k < 8 * m → bit_of (take m b) k ≡ bit_of b k
bit_of-take m b k h = ap (λ y. has_bit y (k % 8)) (get_or-take m b (k / 8) 0 (omega arith))

-- a bit after the first m bytes
pub bit_of-drop : (m : ℕ) (b : List ℕ) (k : ℕ) → bit_of (drop m b) k ≡ bit_of b (8 * m + k)
bit_of-drop m b k =
    let byte : m + k / 8 ≡ (8 * m + k) / 8 = omega arith in
    let digit : k % 8 ≡ (8 * m + k) % 8 = omega arith in
    ap (λ y. has_bit y (k % 8)) (get_or-drop m b (k / 8) 0 ∙ ap (λ i. get_or b i 0) byte)
    ∙ ap (has_bit (get_or b ((8 * m + k) / 8) 0)) digit

-- a bit in the appended bytes
pub bit_of-extension : (b c : List ℕ) (k : ℕ)
    → 8 * length b ≤ k → bit_of (extension b c) k ≡ bit_of c k
bit_of-extension b c k h =
    let byte : length b + (k / 8 - length b) ≡ k / 8 = omega arith in
    ap (λ y. has_bit y (k % 8))
    (get_or-append_right b (drop (length b) c) (length b) (k / 8) 0 refl (omega arith)
    ∙ get_or-drop (length b) c (k / 8 - length b) 0 ∙ ap (λ i. get_or c i 0) byte)

-- a window of the bytes in front
pub bits-append : (b x : List ℕ) (o n : ℕ) → o + n ≤ 8 * length b → bits (b ++ x) o n ≡ bits b o n
bits-append b x o n h = same_bits (b ++ x) b o o n (λ i l. bit_of-append b x (o + i) (omega arith))

-- a window of the first m bytes
pub bits-take_bytes : (m : ℕ) (b : List ℕ) (o n : ℕ)
    → o + n ≤ 8 * m → bits (take m b) o n ≡ bits b o n
bits-take_bytes m b o n h =
    same_bits (take m b) b o o n (λ i l. bit_of-take m b (o + i) (omega arith))

-- a window, with the bytes before its first one dropped
pub bits-drop_bytes : (b : List ℕ) (o n : ℕ) → bits (drop (o / 8) b) (o % 8) n ≡ bits b o n
bits-drop_bytes b o n =
    same_bits (drop (o / 8) b) b (o % 8) o n
    (λ i l. let place : 8 * (o / 8) + (o % 8 + i) ≡ o + i =
    omega arith in bit_of-drop (o / 8) b (o % 8 + i) ∙ ap (bit_of b) place)

-- a window of equal bytes whose digits are all v
pub bits-replicate : (y m n : ℕ) (v : Bool)
    → ((j : ℕ) → j < 8 → has_bit y j ≡ v) → n ≤ 8 * m → bits (replicate m y) 0 n ≡ replicate n v
bits-replicate y m n v h le =
    same_lists _ _
    (length-bits (replicate m y) 0 n ∙ sym (length-replicate n v))
    (λ k d l.
    let within : k < n = omega (arith, length-bits (replicate m y) 0 n) in
    at-bits (replicate m y) 0 n k d within
    ∙ ap (λ x. has_bit x ((0 + k) % 8)) (get_or-replicate m ((0 + k) / 8) y 0 (omega arith))
    ∙ h ((0 + k) % 8) (omega arith)
    ∙ sym (get_or-replicate n k v d within))

-- the digits of the bytes 0xFF and 0x00
pub digits-full : (i : ℕ) → i < 8 → has_bit 255 i ≡ true
digits-full i h = ap (λ x. eqb x 1) (bit_at_ones 8 i h)

pub digits-clear : (i : ℕ) → has_bit 0 i ≡ false
digits-clear i = ap (λ x. eqb x 1) (bit_at-zero i)

-- ---- for `#[tactic(auto, using(..))]`
-- windows of bytes, their parts and counts
pub ruleset windows = (
  bits-empty,
  length-bits,
  slice_get-bits,
  bits-part,
  take-bits,
  take_all,
  bits-append,
  bits-take_bytes,
  bits-drop_bytes,
  bits-replicate,
  length-replicate,
  count_parts,
  count-complement,
  count-le,
)

-- bytes whose bits are all equal
pub ruleset bytes_of_one = (digits-full, digits-clear)
