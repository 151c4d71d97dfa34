-- Counts of bytes that were read one by one.
use Rattle.std.proofs.Common.{◌≡◌, ℕ, ◌+◌, ◌-◌, ◌*◌, ◌/◌, ◌%◌, ◌^◌, ◌<◌, ◌≤◌, List, [], ◌∷◌, get_or}
use Rattle.std.proofs.Common.{true, sym, refl, ap, ◌∙◌, arith}
use Rattle.std.specs.Prelude.{count_ones}
use Rattle.std.proofs.lemmas.Nat.{ones_cat, pow_pos, pow-add}
use Rattle.std.proofs.Math.Nat.{div-lt_iff_lt-mul}
use Rattle.vb_bits.specs.Bits.{bits, count}
use Rattle.vb_bits.proofs.BytesLemmas.{bits_of_byte, bits_of_read_byte}
use Rattle.vb_bits.proofs.DigitsLemmas.{count-digits_below}
use Rattle.vb_bits.proofs.ShiftLemmas.{digits_shr}
use Rattle.vb_count.proofs.HitsLemmas.{count-hits-bits_split}

-- the first bits of byte a, which was read
pub bits_of_byte_at : (b : List ℕ) (x a n : ℕ)
    → x ≡ get_or b a 0 → n ≤ 8 → bits (x ∷ []) 0 n ≡ bits b (8 * a) n
bits_of_byte_at b x a n read within =
    let place : 0 ≡ 8 * a % 8 = omega arith in
    let byte : a ≡ 8 * a / 8 = omega arith in
    ap (λ s. bits (x ∷ []) s n) place
    ∙ bits_of_read_byte b x (8 * a) n (read ∙ ap (λ j. get_or b j 0) byte) (omega arith)

-- the number of set bits in byte a
pub ones_of_byte : (b : List ℕ) (x a : ℕ)
    → x ≡ get_or b a 0 → x < 256 → count_ones x ≡ count (bits b (8 * a) 8)
ones_of_byte b x a read small =
    sym (count-digits_below x 8 small) ∙ ap count
    (sym (bits_of_byte x 0 8 (omega arith)) ∙ bits_of_byte_at b x a 8 read (omega arith))

-- the number of set bits from bit o on to the end of its byte
pub ones_of_head : (b : List ℕ) (x o : ℕ)
    → x ≡ get_or b (o / 8) 0 → x < 256 → count_ones (x / 2 ^ (o % 8)) ≡ count (bits b o (8 - o % 8))
ones_of_head b x o read small =
    let s : ℕ = o % 8 in let k : ℕ = 8 - o % 8 in
    let some : 0 < 2 ^ s = pow_pos s in
    let all : k + s ≡ 8 = omega arith in
    let less : x < 2 ^ k * 2 ^ s = omega (arith, pow-add 2 k s, ap (λ n. 2 ^ n) all) in
    sym (count-digits_below (x / 2 ^ s) k ((div-lt_iff_lt-mul {k = 2 ^ s} some).1 less))
    ∙ ap count (digits_shr x s k
    ∙ sym (bits_of_byte x s k (omega arith)) ∙ bits_of_read_byte b x o k read (omega arith))

-- the digits of a byte and of a number above it
pub ones_above : (x y : ℕ) → x < 256 → count_ones (x + y * 256) ≡ count_ones x + count_ones y
ones_above x y small =
    let e : x + y * 256 ≡ y * 2 ^ 8 + x = omega arith in
    omega (arith, ap count_ones e, ones_cat 8 y x small)

-- two bytes as one number
pub ones_of_two : (b : List ℕ) (x y a : ℕ) → x ≡ get_or b a 0 → y ≡ get_or b (a + 1) 0
    → x < 256 → y < 256 → count_ones (x + y * 256) ≡ count (bits b (8 * a) 16)
ones_of_two b x y a first second p q = omega (
  arith,
  ones_above x y p,
  ones_of_byte b x a first p,
  ones_of_byte b y (a + 1) second q,
  count-hits-bits_split true b (8 * a) 8 16 (8 * (a + 1)) 8 (omega arith) refl,
)

-- four bytes as one number
pub ones_of_four : (b : List ℕ) (x y z w a : ℕ)
    → x ≡ get_or b a 0 → y ≡ get_or b (a + 1) 0 → z ≡ get_or b (a + 2) 0 → w ≡ get_or b (a + 3) 0
    → x < 256 → y < 256 → z < 256
    → w < 256 → count_ones (x + y * 256 + z * 65536 + w * 16777216) ≡ count (bits b (8 * a) 32)
ones_of_four b x y z w a first second third fourth p q r s =
    let high : ℕ = z + w * 256 in
    let e : x + y * 256 + z * 65536 + w * 16777216 ≡ x + (y + high * 256) * 256 = omega arith in
    let next : a + 3 ≡ a + 2 + 1 = omega arith in
    omega (
      arith,
      ap count_ones e,
      ones_above x (y + high * 256) p,
      ones_above y high q,
      ones_of_byte b x a first p,
      ones_of_byte b y (a + 1) second q,
      ones_of_two b z w (a + 2) third (fourth ∙ ap (λ j. get_or b j 0) next) r s,
      count-hits-bits_split true b (8 * a) 8 16 (8 * (a + 1)) 8 (omega arith) refl,
      count-hits-bits_split true b (8 * a) 16 32 (8 * (a + 2)) 16 (omega arith) refl,
    )
