-- Parts of a word that a mask selects, and lanes in pairs.
use Rattle.std.proofs.Common.{◌≡◌, ℕ, zero, suc, ◌+◌, ◌-◌, ◌*◌, ◌/◌, ◌%◌, ◌^◌, ◌<◌, ◌≤◌, List}
use Rattle.std.proofs.Common.{[], ◌∷◌, length, get_or, refl, sym, ap, ◌∙◌, arith}
use Rattle.std.proofs.Common.{pow-suc, div-add-mod', div-lt_iff_lt-mul, replicate}
use Rattle.std.specs.Int.Bits.{bit_and}
use Rattle.std.specs.Simd.Lanes.{Each1, zip2, mask_l, number_l, digits_l, chunk}
use Rattle.std.proofs.Math.Arith.{digits_lt}
use Rattle.std.proofs.Math.Nat.{mul_comm, mul-zero, mod-eq_of_lt}
use native.Mathlib.Nat.{pow-zero}
use Rattle.std.proofs.Math.Pow.{pow_mono}
use Rattle.std.proofs.lemmas.Nat.{pow-add, and_mask, mod-mul-add, div-mul-add}
use Rattle.std.proofs.lemmas.Simd.{mask_l-lt, get_or-zip2, length-zip2, get_or_wider}
use Rattle.std.proofs.lemmas.Simd.{Each1-get_or, get_or-replicate, length-replicate}
use Rattle.vb_bits.specs.Bits.{count}
use Rattle.vb_bits.specs.Digits.{digits}
use Rattle.vb_bits.proofs.BitsLemmas.{count-le}
use Rattle.vb_bits.proofs.DigitsLemmas.{count-digits-add, length-digits}
use Rattle.vb_pack.proofs.MaskLemmas.{mask_l-append}
use Rattle.vb_filter.specs.Fields.{ArePacked, ArePairs, kept_number}
use Rattle.vb_filter.proofs.PackedDigits.{kept_digits, kept_digits-add, length-kept_digits}

-- ---- parts that are joined
-- k bits have at most k ones
ones_of_part : (mask a k : ℕ) → count (digits mask a k) ≤ k
ones_of_part mask a k = omega (arith, count-le (digits mask a k), length-digits mask a k)

pub kept_number-lt : (mask word a k : ℕ) → kept_number mask word a k < 2 ^ k
kept_number-lt mask word a k =
    let few = length-kept_digits mask word a k in
    let wide : 2 ^ length (kept_digits mask word a k) ≤ 2 ^ k =
    pow_mono (omega (arith, few, ones_of_part mask a k)) in
    omega (arith, mask_l-lt (kept_digits mask word a k), wide)

-- the selected bits of two neighbours
kept_number-add : (mask word a k : ℕ) → kept_number mask word a k
    + kept_number mask word (a + k) k * 2 ^ count (digits mask a k)
    ≡ kept_number mask word a (k + k)
kept_number-add mask word a k =
    let low = kept_digits mask word a k in
    let high = kept_digits mask word (a + k) k in
    let many : length low ≡ count (digits mask a k) = length-kept_digits mask word a k in
    ap (λ x. mask_l low + x) (mul_comm (mask_l high) (2 ^ count (digits mask a k)))
    ∙ sym (ap mask_l (kept_digits-add mask word a k k) ∙ mask_l-append low high
    ∙ ap (λ n. mask_l low + 2 ^ n * mask_l high) many)

-- 2 to the number of the selected bits of two neighbours
powers-add : (mask a k : ℕ) → 2 ^ count (digits mask a k) * 2 ^ count (digits mask (a + k) k)
    ≡ 2 ^ count (digits mask a (k + k))
powers-add mask a k =
    sym (ap (λ n. 2 ^ n) (count-digits-add mask a k k)
    ∙ pow-add 2 (count (digits mask a k)) (count (digits mask (a + k) k)))

-- lanes below q, in which two neighbours fit
module _ (mask word k a q : ℕ) (room : 2 ^ (k + k) < q) where
  pub joined_kept : (x y p : ℕ) → x ≡ kept_number mask word a k
      → y ≡ kept_number mask word (a + k) k → p ≡ 2 ^ count (digits mask a k)
      → (x + y * p % q) % q ≡ kept_number mask word a (k + k)
  joined_kept x y p low high power =
      let all : x + y * p ≡ kept_number mask word a (k + k) =
      ap (λ t. t + y * p) low ∙ ap (λ t. kept_number mask word a k + t * p) high
      ∙ ap (λ t. kept_number mask word a k + kept_number mask word (a + k) k * t) power
      ∙ kept_number-add mask word a k in
      let few = kept_number-lt mask word a (k + k) in
      let inner : y * p % q ≡ y * p = mod-eq_of_lt (omega (arith, all, few)) in
      let outer : (x + y * p) % q ≡ x + y * p = mod-eq_of_lt (omega (arith, all, few)) in
      ap (λ t. (x + t) % q) inner ∙ outer ∙ all

  pub joined_power : (p r : ℕ) → p ≡ 2 ^ count (digits mask a k)
      → r ≡ 2 ^ count (digits mask (a + k) k) → p * r % q ≡ 2 ^ count (digits mask a (k + k))
  joined_power p r power above =
      let all : p * r ≡ 2 ^ count (digits mask a (k + k)) =
      ap (λ t. t * r) power ∙ ap (λ t. 2 ^ count (digits mask a k) * t) above
      ∙ powers-add mask a k in
      let few : 2 ^ count (digits mask a (k + k)) ≤ 2 ^ (k + k) =
      pow_mono (ones_of_part mask a (k + k)) in
      mod-eq_of_lt (omega (arith, all, few)) ∙ all

-- ---- lanes in pairs
number_of_digits : (p n x : ℕ) → 0 < p → x < p ^ n → number_l p (digits_l p n x) ≡ x
number_of_digits p zero x some h = omega (arith, pow-zero p)
number_of_digits p (suc n) x some h =
    let less : x / p < p ^ n = (div-lt_iff_lt-mul some).1 (rw (← pow-suc p n) h) in
    rw (number_of_digits p n (x / p) some less) (omega (arith, div-add-mod' x p))

number_l-lt : (p : ℕ) (xs : List ℕ) → Each1 (λ x. x < p) xs → number_l p xs < p ^ length xs
number_l-lt p [] h = omega (arith, pow-zero p)
number_l-lt p (x ∷ xs) h =
    let rest : ℕ = number_l p xs in
    let less : rest * p + x < p ^ length xs * p = digits_lt (number_l-lt p xs h.1) h.0 in
    omega (arith, less, mul_comm p rest, pow-suc p (length xs))

-- lanes written as bytes and read again
pub through_bytes : (p m : ℕ) (xs : List ℕ) → Each1 (λ x. x < p) xs → p ^ length xs ≡ 256 ^ m
    → number_l 256 (digits_l 256 m (number_l p xs)) ≡ number_l p xs
through_bytes p m xs small same =
    number_of_digits 256 m (number_l p xs) (omega arith)
    (omega (arith, number_l-lt p xs small, same))

length-digits_l : (q n x : ℕ) → length (digits_l q n x) ≡ n
length-digits_l q zero x = refl
length-digits_l q (suc n) x = ap suc (length-digits_l q n (x / q))

chunk_two : (p j : ℕ) (xs : List ℕ) → j + 2 ≤ length xs
    → number_l p (chunk j 2 xs) ≡ get_or xs j 0 + p * get_or xs (suc j) 0
chunk_two p j [] h = absurd (omega arith)
chunk_two p zero (x ∷ []) h = absurd (omega arith)
chunk_two p zero (x ∷ y ∷ xs) h =
    let last : y + p * 0 ≡ y = omega (arith, mul-zero p) in
    ap (λ t. x + p * t) last
chunk_two p (suc j) (x ∷ xs) h = chunk_two p j xs (omega arith)

-- two neighbouring lanes of k bits, as one of twice as many
module _ (k a b : ℕ) (small : a < 2 ^ k) where
  first_of : bit_and (a + 2 ^ k * b) (2 ^ k - 1) ≡ a
  first_of =
      let turned : a + 2 ^ k * b ≡ b * 2 ^ k + a = omega (arith, mul_comm (2 ^ k) b) in
      and_mask (a + 2 ^ k * b) k ∙ ap (λ t. t % 2 ^ k) turned ∙ mod-mul-add b (2 ^ k) a small

  second_of : (a + 2 ^ k * b) / 2 ^ k ≡ b
  second_of =
      let turned : a + 2 ^ k * b ≡ b * 2 ^ k + a = omega (arith, mul_comm (2 ^ k) b) in
      ap (λ t. t / 2 ^ k) turned ∙ div-mul-add b (2 ^ k) a small

pub pairs_of : (k n q : ℕ) (v wide : List ℕ) → q ≡ (2 ^ k) ^ 2
    → wide ≡ digits_l q n (number_l (2 ^ k) v) → Each1 (λ x. x < 2 ^ k) v → length v ≡ 2 * n
    → ArePairs v n (zip2 bit_and wide (replicate n (2 ^ k - 1)))
    (zip2 (λ x s. x / 2 ^ s) wide (replicate n k))
pairs_of k n q v wide twice is small long =
    let many : length wide ≡ n = ap length is ∙ length-digits_l q n (number_l (2 ^ k) v) in
    let lane : (i : ℕ) → i < n
    → get_or wide i 0 ≡ get_or v (2 * i) 0 + 2 ^ k * get_or v (2 * i + 1) 0 = λ i h.
    ap (λ l. get_or l i 0) is ∙ get_or_wider (2 ^ k) 2 q n v i twice small h
    ∙ chunk_two (2 ^ k) (2 * i) v (omega arith)
    ∙ ap (λ j. get_or v (2 * i) 0 + 2 ^ k * get_or v j 0) (omega arith) in
    let fits : (i : ℕ) → i < n → get_or v (2 * i) 0 < 2 ^ k = λ i h.
    Each1-get_or (λ x. x < 2 ^ k) v (2 * i) 0 (omega arith) small in
    record {
      lengths = (
        length-zip2 bit_and wide (replicate n (2 ^ k - 1))
            (many ∙ sym (length-replicate n (2 ^ k - 1))) ∙ many,
        length-zip2 (λ x s. x / 2 ^ s) wide (replicate n k) (many ∙ sym (length-replicate n k))
            ∙ many,
      );
      first = λ i h.
          get_or-zip2 bit_and wide (replicate n (2 ^ k - 1)) i 0 0 0 (omega arith)
          (omega (arith, length-replicate n (2 ^ k - 1)))
          ∙ ap (bit_and (get_or wide i 0)) (get_or-replicate n i (2 ^ k - 1) 0 h)
          ∙ ap (λ x. bit_and x (2 ^ k - 1)) (lane i h)
          ∙ first_of k (get_or v (2 * i) 0) (get_or v (2 * i + 1) 0) (fits i h);
      second = λ i h.
          get_or-zip2 (λ x s. x / 2 ^ s) wide (replicate n k) i 0 0 0 (omega arith)
          (omega (arith, length-replicate n k))
          ∙ ap (λ s. get_or wide i 0 / 2 ^ s) (get_or-replicate n i k 0 h)
          ∙ ap (λ x. x / 2 ^ k) (lane i h)
          ∙ second_of k (get_or v (2 * i) 0) (get_or v (2 * i + 1) 0) (fits i h);
    }

-- ---- neighbours that are joined, in lanes below q
module _ (mask word k kk n q : ℕ) (kept powers low high power above : List ℕ)
    (twice : kk ≡ k + k) (room : 2 ^ (k + k) < q)
    (here : (i : ℕ) → k * (2 * i) ≡ kk * i) (next : (i : ℕ) → k * (2 * i + 1) ≡ kk * i + k)
    (packed : ArePacked mask word k (2 * n) kept powers)
    (kept_pairs : ArePairs kept n low high) (power_pairs : ArePairs powers n power above) where
  abbrev more : List ℕ
  more = zip2 (λ a b. a * b % q) high power

  length-more : length more ≡ n
  length-more = length-zip2 (λ a b. a * b % q) high power
      (kept_pairs.lengths.1 ∙ sym power_pairs.lengths.0) ∙ kept_pairs.lengths.1

  length-joined : length (zip2 (λ a b. (a + b) % q) low more) ≡ n
  length-joined = length-zip2 (λ a b. (a + b) % q) low more
      (kept_pairs.lengths.0 ∙ sym length-more) ∙ kept_pairs.lengths.0

  power_here : (i : ℕ) → i < n → get_or power i 0 ≡ 2 ^ count (digits mask (kk * i) k)
  power_here i h =
      power_pairs.first i h ∙ packed.numbers (2 * i) (omega arith)
      ∙ ap (λ a. 2 ^ count (digits mask a k)) (here i)

  pub joined_each : (i : ℕ) → i < n → get_or (zip2 (λ a b. (a + b) % q) low more) i 0
      ≡ kept_number mask word (kk * i) kk
  joined_each i h =
      let a = kk * i in
      get_or-zip2 (λ a b. (a + b) % q) low more i 0 0 0 (omega (arith, kept_pairs.lengths.0))
      (omega (arith, length-more))
      ∙ ap (λ t. (get_or low i 0 + t) % q) (get_or-zip2 (λ a b. a * b % q) high power i 0 0 0
      (omega (arith, kept_pairs.lengths.1)) (omega (arith, power_pairs.lengths.0)))
      ∙ joined_kept mask word k a q room (get_or low i 0) (get_or high i 0) (get_or power i 0)
      (kept_pairs.first i h ∙ packed.each (2 * i) (omega arith)
      ∙ ap (λ a. kept_number mask word a k) (here i))
      (kept_pairs.second i h ∙ packed.each (2 * i + 1) (omega arith)
      ∙ ap (λ a. kept_number mask word a k) (next i))
      (power_here i h)
      ∙ ap (kept_number mask word a) (sym twice)

  pub joined : ArePacked mask word kk n (zip2 (λ a b. (a + b) % q) low more)
      (zip2 (λ a b. a * b % q) power above)
  joined = record {
    lengths = (
      length-joined,
      length-zip2 (λ a b. a * b % q) power above
          (power_pairs.lengths.0 ∙ sym power_pairs.lengths.1) ∙ power_pairs.lengths.0,
    );
    each = joined_each;
    numbers = λ i h.
        get_or-zip2 (λ a b. a * b % q) power above i 0 0 0 (omega (arith, power_pairs.lengths.0))
        (omega (arith, power_pairs.lengths.1))
        ∙ joined_power mask word k (kk * i) q room (get_or power i 0) (get_or above i 0)
        (power_here i h)
        (power_pairs.second i h ∙ packed.numbers (2 * i + 1) (omega arith)
        ∙ ap (λ a. 2 ^ count (digits mask a k)) (next i))
        ∙ ap (λ m. 2 ^ count (digits mask (kk * i) m)) (sym twice);
  }
