-- The spaces of a text, and of its parts, as the bits of a number.
use Rattle.std.proofs.Common.{◌≡◌, ◌≢◌, ℕ, ◌+◌, ◌*◌, ◌/◌, ◌%◌, ◌^◌, ◌<◌, ◌≤◌, Bool, true, false}
use Rattle.std.proofs.Common.{cond, List, [], ◌∷◌, ◌++◌, length, get_or, take, drop, map, suc}
use Rattle.std.proofs.Common.{sym, ap, ◌∙◌, arith, pow-suc, replicate, w8}
use lib.Count.{count_trailing_zeros}
use lib.Dec.{leb, eqb}
use lib.Lanes.{mask_l, top, zip2}
use mathlib.Core.Bool.{not}
use Rattle.std.specs.List.{position_or_len, prefix_len}
use Rattle.std.specs.Str.{IsAscii}
use Rattle.std.proofs.lemmas.Bool.{leb-false, not-true}
use Rattle.std.proofs.lemmas.List.{length-take-le, length-map, length-drop, take-map, drop-map}
use Rattle.std.proofs.lemmas.List.{take-append-drop, take-take}
use Rattle.std.proofs.lemmas.List.Sums.{prefix_len_passes}
use Rattle.std.proofs.lemmas.Nat.{div-mul-add, mod_low, shl_whole}
use Rattle.std.proofs.lemmas.Simd.{mask_l-lt, mask_l-mod, bitmask_splat, tops_compared}
use Rattle.std.proofs.lemmas.Simd.{zip2_splat_left, leading_from_mask_l, trailing_mask_l}
use Rattle.std.proofs.lemmas.Str.Ascii.{IsAscii-from_reads}
use Rattle.vb_command.specs.Spaces.{AreSpaces}
use Rattle.vb_command.specs.Words.{is_space}

-- the mask of two lists, one after the other
mask_l-append : (k l : List Bool) → mask_l (k ++ l) ≡ mask_l l * 2 ^ length k + mask_l k
mask_l-append [] l = omega arith
mask_l-append (b ∷ k) l =
    let rest = mask_l-append k l in
    let twice : 2 ^ suc (length k) ≡ 2 ^ length k * 2 = pow-suc 2 (length k) in
    rw (twice, rest) (omega arith)

-- the mask of a list that is cut in two
mask_l-cut : (l : List Bool) (n : ℕ) → n ≤ length l
    → mask_l l ≡ mask_l (drop n l) * 2 ^ n + mask_l (take n l)
mask_l-cut l n within =
    ap mask_l (sym (take-append-drop n l)) ∙ mask_l-append (take n l) (drop n l)
    ∙ ap (λ k. mask_l (drop n l) * 2 ^ k + mask_l (take n l)) (length-take-le n l within)

low : (l : List Bool) (n : ℕ) → n ≤ length l → mask_l (take n l) < 2 ^ n
low l n within =
    let small = mask_l-lt (take n l) in
    rw (length-take-le n l within) at small

-- the remainder by a power of two is the mask of the first part
pub mask_l-front : (p : ℕ → Bool) (xs : List ℕ) (n : ℕ) → n ≤ length xs
    → mask_l (map p xs) % 2 ^ n ≡ mask_l (map p (take n xs))
mask_l-front p xs n within =
    let inside : n ≤ length (map p xs) = omega (arith, length-map xs p) in
    ap (λ m. m % 2 ^ n) (mask_l-cut (map p xs) n inside)
    ∙ mod_low _ n _ (low (map p xs) n inside) ∙ ap mask_l (take-map p n xs)

-- the quotient by a power of two is the mask of the rest
pub mask_l-back : (p : ℕ → Bool) (xs : List ℕ) (n : ℕ) → n ≤ length xs
    → mask_l (map p xs) / 2 ^ n ≡ mask_l (map p (drop n xs))
mask_l-back p xs n within =
    let inside : n ≤ length (map p xs) = omega (arith, length-map xs p) in
    ap (λ m. m / 2 ^ n) (mask_l-cut (map p xs) n inside)
    ∙ div-mul-add _ (2 ^ n) _ (low (map p xs) n inside) ∙ ap mask_l (drop-map p n xs)

set : (b : Bool) (n m l : ℕ) → 0 < cond b 1 0 + 2 * n → (0 < n → m < l)
    → cond (not b) (1 + m) 0 < suc l
set true n m l some rest = omega arith
set false n m l some rest = let r = rest (omega arith) in omega arith

-- if a bit is set, a byte passes the test
inside : (p : ℕ → Bool) (xs : List ℕ) → 0 < mask_l (map p xs)
    → prefix_len (λ x. not (p x)) xs < length xs
inside p [] some = absurd (omega arith)
inside p (x ∷ xs) some =
    set (p x) (mask_l (map p xs)) (prefix_len (λ y. not (p y)) xs) (length xs) some (inside p xs)

-- the lowest set bit is at the index of the first space
pub first_space : (text : List ℕ) (spaces : ℕ) → AreSpaces text spaces → spaces ≢ 0
    → (count_trailing_zeros 64 spaces ≡ position_or_len is_space text)
    × (position_or_len is_space text < length text)
first_space text spaces are some =
    let bits = are.bits in
    let there : 0 < mask_l (map is_space text) = omega arith in (
      ap (count_trailing_zeros 64) bits
          ∙ trailing_mask_l is_space 64 text (omega (arith, are.short)) there,
      inside is_space text there,
    )

-- if no bit is set there is no space
pub no_space : (text : List ℕ) (spaces : ℕ) → AreSpaces text spaces → spaces ≡ 0
    → position_or_len is_space text ≡ length text
no_space text spaces are none = leading_from_mask_l is_space text (sym are.bits ∙ none)

-- the bits after the first n are the spaces after the first n bytes
pub spaces_behind : (text : List ℕ) (spaces n : ℕ) → AreSpaces text spaces → n ≤ length text
    → AreSpaces (drop n text) (spaces / 2 ^ n)
spaces_behind text spaces n are within = record {
  bits = ap (λ m. m / 2 ^ n) are.bits ∙ mask_l-back is_space text n within;
  short = omega (arith, are.short, length-drop n text);
}

-- a remainder by a power of two that a shift computes
shifted : (m n : ℕ) → n ≤ 32 → m % (1 * 2 ^ n % 2 ^ 64) ≡ m % 2 ^ n
shifted m n small = ap (λ k. m % k) (shl_whole 1 1 n 64 (omega arith) (omega arith) ∙ omega arith)

-- the mask of a test of 32 bytes, cut to the first n
cut_mask : (p : ℕ → Bool) (bytes : List ℕ) (n m : ℕ) → 32 ≤ length bytes → n ≤ 32
    → m ≡ mask_l (map p (take 32 bytes))
    → m % (1 * 2 ^ n % 2 ^ 64) ≡ mask_l (map p (take n bytes))
cut_mask p bytes n m long small is =
    let front : List ℕ = take 32 bytes in
    let size : length front ≡ 32 = length-take-le 32 bytes long in
    shifted m n small ∙ ap (λ k. k % 2 ^ n) is ∙ mask_l-front p front n (omega arith)
    ∙ ap (λ l. mask_l (map p l)) (take-take n 32 bytes small)

-- the mask of the bytes that equal y
pub equal_mask : (bytes : List ℕ) (y n : ℕ) → 32 ≤ length bytes → n ≤ 32
    → mask_l (map (top 7) (zip2 (λ a b. cond (eqb a b) 255 0) (take 32 bytes) (replicate 32 y)))
    % 2 ^ 64 % (1 * 2 ^ n % 2 ^ 64) ≡ mask_l (map (λ x. eqb x y) (take n bytes))
equal_mask bytes y n long small =
    cut_mask (λ x. eqb x y) bytes n _ long small
    (bitmask_splat w8 eqb (take 32 bytes) 32 y (length-take-le 32 bytes long) (omega arith))

-- the mask of the bytes that are at least y
pub least_mask : (bytes : List ℕ) (y n : ℕ) → 32 ≤ length bytes → n ≤ 32
    → mask_l (map (top 7) (zip2 (λ a b. cond (leb a b) 255 0) (replicate 32 y) (take 32 bytes)))
    % 2 ^ 64 % (1 * 2 ^ n % 2 ^ 64) ≡ mask_l (map (λ x. leb y x) (take n bytes))
least_mask bytes y n long small =
    let front : List ℕ = take 32 bytes in
    let size : length front ≡ 32 = length-take-le 32 bytes long in
    cut_mask (λ x. leb y x) bytes n _ long small
    (ap (λ ms. mask_l ms % 2 ^ 64) (tops_compared w8 leb (replicate 32 y) front
    ∙ zip2_splat_left leb y 32 front size)
    ∙ mask_l-mod (map (λ x. leb y x) front) 64 (omega (arith, length-map front (λ x. leb y x))))

-- if no byte's highest bit is set, all bytes are ASCII
pub low_bytes : (xs : List ℕ) → mask_l (map (λ x. leb 128 x) xs) ≡ 0 → IsAscii xs
low_bytes xs none = IsAscii-from_reads xs (length xs) (omega arith) (λ k lt.
    let all = leading_from_mask_l (λ x. leb 128 x) xs none in
    let within : k < prefix_len (λ x. not (leb 128 x)) xs = omega (arith, all) in
    leb-false 128 (get_or xs k 0)
    (not-true (leb 128 (get_or xs k 0)) (prefix_len_passes (λ x. not (leb 128 x)) xs k 0 within)))
