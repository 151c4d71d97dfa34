-- A number below `256 ^ n` and its n bytes, the least significant first, determine each other.
use Rattle.std.proofs.Common.{◌/◌, ◌%◌, ◌≡◌, ℕ, zero, suc, ◌+◌, ◌*◌, ◌^◌, ◌<◌, List, [], ◌∷◌}
use Rattle.std.proofs.Common.{length, slice_index, refl, sym, ap, ◌∙◌, arith}
use Rattle.std.proofs.lemmas.List.Elements.{All-nil, All-cons, All-head, All-tail}
use Rattle.std.proofs.Math.Nat.{div-div-eq-div-mul, div-one, pow-suc}
use Rattle.std.specs.Int.{Width, w8, w16, w32, w64, w128, byte_at, byte_len, byte_worth}
use Rattle.std.specs.Int.{bytes_low_first, sum_through, to_le_bytes, from_le_bytes}
use mir.Val.{bits}
use Rattle.vb_core.specs.Elements.{AreBytes}

-- the n lowest bytes of x, the lowest first
abbrev byte_digits : ℕ → ℕ → List ℕ
byte_digits zero x = []
byte_digits (suc n) x = (x % 256) ∷ byte_digits n (x / 256)

-- the number that bytes represent, the lowest byte first
abbrev bytes_number : List ℕ → ℕ
bytes_number [] = 0
bytes_number (b ∷ bs) = b + 256 * bytes_number bs

-- `byte_digits n x` has n bytes
length-byte_digits : (n x : ℕ) → length (byte_digits n x) ≡ n
length-byte_digits zero x = refl
length-byte_digits (suc n) x = let rest = length-byte_digits n (x / 256) in omega arith

-- each of them is from 0 to 255
digits_are_bytes : (n x : ℕ) → AreBytes (byte_digits n x)
digits_are_bytes zero x = All-nil (λ b. b < 256)
digits_are_bytes (suc n) x =
    All-cons (λ b. b < 256) (x % 256) (byte_digits n (x / 256)) (omega arith)
    (digits_are_bytes n (x / 256))

-- the n bytes of a number below `256 ^ n` represent it
bytes_number-byte_digits : (n x : ℕ) → x < 256 ^ n → bytes_number (byte_digits n x) ≡ x
bytes_number-byte_digits zero x fits = omega arith
bytes_number-byte_digits (suc n) x fits =
    let power : 256 ^ suc n ≡ 256 ^ n * 256 = pow-suc 256 n in
    let rest_fits : x / 256 < 256 ^ n = omega arith in
    let rest = bytes_number-byte_digits n (x / 256) rest_fits in omega arith

-- the number that bytes represent has these bytes
byte_digits-bytes_number : (bs : List ℕ) → AreBytes bs
    → byte_digits (length bs) (bytes_number bs) ≡ bs
byte_digits-bytes_number [] all = refl
byte_digits-bytes_number (b ∷ bs) all =
    let fits : b < 256 = All-head (λ y. y < 256) b bs all in
    let low : (b + 256 * bytes_number bs) % 256 ≡ b = omega arith in
    let high : (b + 256 * bytes_number bs) / 256 ≡ bytes_number bs = omega arith in
    rw (low, high, byte_digits-bytes_number bs (All-tail (λ y. y < 256) b bs all)) refl

-- n bytes represent a number below `256 ^ n`
bytes_number_fits : (bs : List ℕ) → AreBytes bs → bytes_number bs < 256 ^ length bs
bytes_number_fits [] all = omega arith
bytes_number_fits (b ∷ bs) all =
    let power : 256 ^ suc (length bs) ≡ 256 ^ length bs * 256 = pow-suc 256 (length bs) in
    let fits : b < 256 = All-head (λ y. y < 256) b bs all in
    let rest = bytes_number_fits bs (All-tail (λ y. y < 256) b bs all) in omega arith

-- std's byte k of a number, as a quotient by a power
byte_at-pow : (k x : ℕ) → byte_at k x ≡ x / 256 ^ k % 256
byte_at-pow zero x = ap (λ (y : ℕ). y % 256) (sym (div-one x))
byte_at-pow (suc k) x = refl

-- std's bytes of a number are its digits
bytes_low_first-byte_digits : (i k x : ℕ) → bytes_low_first i k x ≡ byte_digits k (x / 256 ^ i)
bytes_low_first-byte_digits i zero x = refl
bytes_low_first-byte_digits i (suc k) x =
    let shift : x / 256 ^ suc i ≡ x / 256 ^ i / 256 =
    ap (λ (p : ℕ). x / p) (pow-suc 256 i) ∙ sym (div-div-eq-div-mul x (256 ^ i) 256) in
    rw (byte_at-pow i x, bytes_low_first-byte_digits (suc i) k x, shift) refl

-- a sum as its first term plus the rest
sum_through-first : (f : ℕ → ℕ) (k : ℕ)
    → sum_through f (suc k) ≡ f 0 + sum_through (λ i. f (suc i)) k
sum_through-first f zero = refl
sum_through-first f (suc k) = let rest = sum_through-first f k in omega arith

-- a byte one index up is worth 256 times as much
byte_worth-suc : (i b : ℕ) → byte_worth (suc i) b ≡ 256 * byte_worth i b
byte_worth-suc zero b = omega arith
byte_worth-suc (suc i) b =
    let power : 256 ^ suc (suc i) ≡ 256 ^ suc i * 256 = pow-suc 256 (suc i) in
    rw power (grind arith)

-- and so is a sum of such bytes
sum_through-up : (g : ℕ → ℕ) (k : ℕ)
    → sum_through (λ i. byte_worth (suc i) (g i)) k ≡ 256 * sum_through (λ i. byte_worth i (g i)) k
sum_through-up g zero = byte_worth-suc 0 (g 0)
sum_through-up g (suc k) =
    let rest = sum_through-up g k in
    let top = byte_worth-suc (suc k) (g (suc k)) in omega arith

-- std's sum over bytes is the number that they represent
sum_through-bytes_number : (bs : List ℕ) (k : ℕ) → length bs ≡ suc k
    → sum_through (λ i. byte_worth i (slice_index bs i)) k ≡ bytes_number bs
sum_through-bytes_number [] k len = absurd (omega arith)
sum_through-bytes_number (b ∷ []) zero len = omega arith
sum_through-bytes_number (b ∷ []) (suc k) len = absurd (omega arith)
sum_through-bytes_number (b ∷ c ∷ bs) zero len = absurd (omega arith)
sum_through-bytes_number (b ∷ c ∷ bs) (suc k) len =
    let rest = sum_through-bytes_number (c ∷ bs) k (omega arith) in
    let first = sum_through-first (λ i. byte_worth i (slice_index (b ∷ c ∷ bs) i)) k in
    let up = sum_through-up (λ i. slice_index (c ∷ bs) i) k in
    omega arith

-- reading the bytes of a width returns the number that they represent
from_le_bytes-bytes_number : (w : Width) (bs : List ℕ) → length bs ≡ byte_len w
    → from_le_bytes w bs ≡ bytes_number bs
from_le_bytes-bytes_number w8 bs len = sum_through-bytes_number bs 0 len
from_le_bytes-bytes_number w16 bs len = sum_through-bytes_number bs 1 len
from_le_bytes-bytes_number w32 bs len = sum_through-bytes_number bs 3 len
from_le_bytes-bytes_number w64 bs len = sum_through-bytes_number bs 7 len
from_le_bytes-bytes_number w128 bs len = sum_through-bytes_number bs 15 len

-- the bits of a width and its bytes give the same number of values
pow-bits : (w : Width) → 2 ^ bits w ≡ 256 ^ byte_len w
pow-bits w8 = refl
pow-bits w16 = refl
pow-bits w32 = refl
pow-bits w64 = refl
pow-bits w128 = refl

-- writing a number writes its bytes
to_le_bytes-byte_digits : (w : Width) (x : ℕ) → to_le_bytes w x ≡ byte_digits (byte_len w) x
to_le_bytes-byte_digits w x =
    bytes_low_first-byte_digits 0 (byte_len w) x ∙ ap (byte_digits (byte_len w)) (div-one x)

-- the number of bytes written is that of the width
pub length-to_le_bytes : (w : Width) (x : ℕ) → length (to_le_bytes w x) ≡ byte_len w
length-to_le_bytes w x = rw (to_le_bytes-byte_digits w x) (length-byte_digits (byte_len w) x)

-- each written byte is from 0 to 255
pub to_le_bytes_are_bytes : (w : Width) (x : ℕ) → AreBytes (to_le_bytes w x)
to_le_bytes_are_bytes w x = rw (to_le_bytes-byte_digits w x) (digits_are_bytes (byte_len w) x)

-- reading after writing returns the number
pub from_le_bytes-to_le_bytes : (w : Width) (x : ℕ) → x < 2 ^ bits w
    → from_le_bytes w (to_le_bytes w x) ≡ x
from_le_bytes-to_le_bytes w x fits =
    from_le_bytes-bytes_number w (to_le_bytes w x) (length-to_le_bytes w x)
    ∙ ap bytes_number (to_le_bytes-byte_digits w x)
    ∙ bytes_number-byte_digits (byte_len w) x (rw (← pow-bits w) fits)

-- writing after reading returns the bytes
pub to_le_bytes-from_le_bytes : (w : Width) (bs : List ℕ) → length bs ≡ byte_len w → AreBytes bs
    → to_le_bytes w (from_le_bytes w bs) ≡ bs
to_le_bytes-from_le_bytes w bs len all =
    to_le_bytes-byte_digits w (from_le_bytes w bs)
    ∙ ap (byte_digits (byte_len w)) (from_le_bytes-bytes_number w bs len)
    ∙ ap (λ k. byte_digits k (bytes_number bs)) (sym len) ∙ byte_digits-bytes_number bs all

-- the number read fits in the width
pub from_le_bytes_fits : (w : Width) (bs : List ℕ) → length bs ≡ byte_len w → AreBytes bs
    → from_le_bytes w bs < 2 ^ bits w
from_le_bytes_fits w bs len all =
    rw (from_le_bytes-bytes_number w bs len, pow-bits w, ← len) (bytes_number_fits bs all)
