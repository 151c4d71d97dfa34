-- Vectors of words, lane by lane.
use Rattle.std.proofs.Common.{◌≡◌, ℕ, zero, suc, ◌+◌, ◌*◌, ◌/◌, ◌%◌, ◌^◌, ◌<◌, List, [], ◌∷◌}
use Rattle.std.proofs.Common.{length, map, get_or, refl, sym, ap, ◌∙◌, arith}
use Rattle.std.proofs.lemmas.List.{length-map}
use Rattle.std.specs.Prelude.{count_ones, bit_and, bit_or, bit_xor}
use Rattle.std.specs.Simd.Lanes.{Each1, zip2, sum_l, fold_l, number_l, digits_l}
use Rattle.std.proofs.lemmas.Nat.{and_le_l, or_lt, xor_lt, ones_cat, ones_le_self, shr_split}
use Rattle.std.proofs.lemmas.Nat.{mod_below, pow_pos}
use Rattle.std.proofs.lemmas.Simd.{length-zip2, Each1-zip2, Each2-of}
use Rattle.std.proofs.Math.Nat.{pow-zero, pow-suc, div-lt_iff_lt-mul}
use Rattle.vb_bits.specs.Bits.{bits, count}
use Rattle.vb_bits.specs.Digits.{has_bit}
use Rattle.vb_bits.proofs.BitsLemmas.{same_bits, count-bits_none, count-bits-add}
use Rattle.vb_bits.proofs.BytesLemmas.{bits_of_byte, bits_of_read_byte}
use Rattle.vb_bits.proofs.DigitsLemmas.{count-digits_below}
use Rattle.vb_count.specs.Lanes.{EightWords, ones}
use Rattle.vb_count.proofs.AdderLemmas.{ones-adder}

-- ---- vectors of words
-- an operator whose results are words
EightWords-zip2 : (f : ℕ → ℕ → ℕ) → ((a b : ℕ) → a < 2 ^ 64 → b < 2 ^ 64 → f a b < 2 ^ 64)
    → (xs ys : List ℕ) → EightWords xs → EightWords ys → EightWords (zip2 f xs ys)
EightWords-zip2 f keeps xs ys v w = (
  length-zip2 f xs ys (v.0 ∙ sym w.0) ∙ v.0,
  Each1-zip2 f (λ x. x < 2 ^ 64) xs ys
      (Each2-of (λ x. x < 2 ^ 64) (λ x. x < 2 ^ 64) (λ x y. f x y < 2 ^ 64) keeps xs ys v.1 w.1),
)

pub EightWords-xor : (xs ys : List ℕ)
    → EightWords xs → EightWords ys → EightWords (zip2 bit_xor xs ys)
EightWords-xor = EightWords-zip2 bit_xor (xor_lt 64)

pub EightWords-or : (xs ys : List ℕ) → EightWords xs
    → EightWords ys → EightWords (zip2 bit_or xs ys)
EightWords-or = EightWords-zip2 bit_or (or_lt 64)

pub EightWords-and : (xs ys : List ℕ)
    → EightWords xs → EightWords ys → EightWords (zip2 bit_and xs ys)
EightWords-and = EightWords-zip2 bit_and (λ a b h k. omega (arith, and_le_l a b))

-- the full adder, lane by lane
adder_l : (xs ys zs : List ℕ) → length xs ≡ length ys → length xs ≡ length zs
    → Each1 (λ x. x < 2 ^ 64) xs → Each1 (λ x. x < 2 ^ 64) ys → Each1 (λ x. x < 2 ^ 64) zs
    → ones (zip2 bit_xor (zip2 bit_xor xs ys) zs) + 2 * ones (zip2 bit_or
    (zip2 bit_and xs ys) (zip2 bit_and (zip2 bit_xor xs ys) zs)) ≡ ones xs + ones ys + ones zs
adder_l [] [] [] e d p q r = refl
adder_l [] (y ∷ ys) zs e d p q r = absurd (omega arith)
adder_l [] [] (z ∷ zs) e d p q r = absurd (omega arith)
adder_l (x ∷ xs) [] zs e d p q r = absurd (omega arith)
adder_l (x ∷ xs) (y ∷ ys) [] e d p q r = absurd (omega arith)
adder_l (x ∷ xs) (y ∷ ys) (z ∷ zs) e d p q r = omega (
  arith,
  ones-adder 64 x y z p.0 q.0 r.0,
  adder_l xs ys zs (omega arith) (omega arith) p.1 q.1 r.1,
)

pub ones-adder_l : (xs ys zs : List ℕ) → EightWords xs → EightWords ys → EightWords zs
    → ones (zip2 bit_xor (zip2 bit_xor xs ys) zs) + 2 * ones (zip2 bit_or
    (zip2 bit_and xs ys) (zip2 bit_and (zip2 bit_xor xs ys) zs)) ≡ ones xs + ones ys + ones zs
ones-adder_l xs ys zs u v w = adder_l xs ys zs (u.0 ∙ sym v.0) (u.0 ∙ sym w.0) u.1 v.1 w.1

-- ---- sums
-- the counts of words, as a vector computes them, are words
pub EightWords-counts : (xs : List ℕ)
    → EightWords xs → EightWords (map (λ n. n) (map count_ones xs))
EightWords-counts xs v =
    (length-map (map count_ones xs) (λ n. n) ∙ length-map xs count_ones ∙ v.0, each xs v.1)
  where
    each : (xs : List ℕ)
        → Each1 (λ x. x < 2 ^ 64) xs → Each1 (λ x. x < 2 ^ 64) (map (λ n. n) (map count_ones xs))
    each [] h = tt
    each (x ∷ xs) h = (omega (arith, ones_le_self x, h.0), each xs h.1)

-- and their sum is the number of set digits of all lanes
pub sum-counts : (xs : List ℕ) → sum_l (map (λ n. n) (map count_ones xs)) ≡ ones xs
sum-counts [] = refl
sum-counts (x ∷ xs) = ap (λ n. count_ones x + n) (sum-counts xs)

-- sums modulo 2 ^ 64, if none wraps
pub sum-wrapped : (xs ys : List ℕ) → length xs ≡ length ys → sum_l xs + sum_l ys
    < 2 ^ 64 → sum_l (zip2 (λ a b. (a + b) % 2 ^ 64) xs ys) ≡ sum_l xs + sum_l ys
sum-wrapped [] [] e h = refl
sum-wrapped [] (y ∷ ys) e h = absurd (omega arith)
sum-wrapped (x ∷ xs) [] e h = absurd (omega arith)
sum-wrapped (x ∷ xs) (y ∷ ys) e h = omega (arith, sum-wrapped xs ys (omega arith) (omega arith))

pub EightWords-wrapped : (xs ys : List ℕ)
    → EightWords xs → EightWords ys → EightWords (zip2 (λ a b. (a + b) % 2 ^ 64) xs ys)
EightWords-wrapped = EightWords-zip2 (λ a b. (a + b) % 2 ^ 64) (λ a b h k. omega arith)

pub fold-wrapped : (a : ℕ) (xs : List ℕ)
    → a + sum_l xs < 2 ^ 64 → fold_l (λ s x. (s + x) % 2 ^ 64) a xs ≡ a + sum_l xs
fold-wrapped a [] h = omega arith
fold-wrapped a (x ∷ xs) h =
    let small : (a + x) % 2 ^ 64 ≡ a + x = omega arith in
    ap (λ s. fold_l (λ s x. (s + x) % 2 ^ 64) s xs) small
    ∙ fold-wrapped (a + x) xs (omega arith) ∙ omega arith

-- ---- bytes read as words
-- a number's parts of k digits have its digits
ones-digits_l : (k n x : ℕ) → x < (2 ^ k) ^ n → ones (digits_l (2 ^ k) n x) ≡ count_ones x
ones-digits_l k zero x h = omega (arith, ones_le_self x, pow-zero (2 ^ k))
ones-digits_l k (suc n) x h =
    let p : ℕ = 2 ^ k in
    let some : 0 < p = pow_pos k in
    let less : x < p ^ n * p = omega (arith, pow-suc p n) in
    let above = ones-digits_l k n (x / p) ((div-lt_iff_lt-mul {k = p} some).1 less) in
    omega (
      arith,
      above,
      ones_cat k (x / p) (x % p) (mod_below x p some),
      ap count_ones (shr_split x k),
    )

-- bytes as one number
number_l-lt : (xs : List ℕ) → Each1 (λ x. x < 256) xs → number_l 256 xs < 256 ^ length xs
number_l-lt [] h = omega arith
number_l-lt (x ∷ xs) h = omega (arith, h.0, number_l-lt xs h.1, pow-suc 256 (length xs))

ones-number_l : (xs : List ℕ) → Each1 (λ x. x < 256) xs → count_ones (number_l 256 xs) ≡ ones xs
ones-number_l [] h = omega (arith, ones_le_self 0)
ones-number_l (x ∷ xs) h =
    let rest : ℕ = number_l 256 xs in
    let e : x + 256 * rest ≡ rest * 2 ^ 8 + x = omega arith in
    omega (arith, ap count_ones e, ones_cat 8 rest x h.0, ones-number_l xs h.1)

-- the digits of bytes are their bits
ones-bits : (xs : List ℕ) → Each1 (λ x. x < 256) xs → ones xs ≡ count (bits xs 0 (8 * length xs))
ones-bits [] h = sym (count-bits_none [] 0)
ones-bits (x ∷ xs) h =
    let n : ℕ = 8 * length xs in
    let long : 8 * length (x ∷ xs) ≡ 8 + n = omega arith in
    let first = sym (count-digits_below x 8 h.0) ∙ ap count (sym (bits_of_byte x 0 8 (omega arith))
    ∙ bits_of_read_byte (x ∷ xs) x 0 8 refl (omega arith)) in
    let rest = same_bits (x ∷ xs) xs 8 0 n (λ i l.
    let byte : (8 + i) / 8 ≡ suc ((0 + i) / 8) = omega arith in
    let place : (8 + i) % 8 ≡ (0 + i) % 8 = omega arith in
    ap (λ j. has_bit (get_or (x ∷ xs) j 0) ((8 + i) % 8)) byte
    ∙ ap (has_bit (get_or xs ((0 + i) / 8) 0)) place) in
    omega (
      arith,
      ap (λ m. count (bits (x ∷ xs) 0 m)) long,
      count-bits-add (x ∷ xs) 0 8 n,
      first,
      ap count rest,
      ones-bits xs h.1,
    )

-- eight words read from 64 bytes
pub ones-words : (xs : List ℕ) → length xs ≡ 64 → Each1 (λ x. x < 256) xs
    → ones (digits_l (2 ^ 64) 8 (number_l 256 xs)) ≡ count (bits xs 0 512)
ones-words xs long h =
    ones-digits_l 64 8 (number_l 256 xs) (omega (arith, number_l-lt xs h, ap (λ n. 256 ^ n) long))
    ∙ ones-number_l xs h ∙ ones-bits xs h ∙ ap (λ n. count (bits xs 0 (8 * n))) long
