-- A word of a mask, and the values that it selects.
use Rattle.std.proofs.Common.{◌≡◌, ℕ, zero, suc, ◌+◌, ◌-◌, ◌*◌, ◌^◌, ◌<◌, ◌≤◌, Bool, false, List}
use Rattle.std.proofs.Common.{[], ◌∷◌, ◌++◌, inl, inr, min, length, take, drop, replicate, refl}
use Rattle.std.proofs.Common.{sym, ap, ◌∙◌, arith}
use Rattle.std.specs.Prelude.{count_ones, slice_range}
use Rattle.std.proofs.Math.Seq.{take-add}
use Rattle.std.proofs.lemmas.List.{append-nil, take_all}
use Rattle.std.proofs.lemmas.Bool.{cases_lt}
use Rattle.vb_bits.specs.Bits.{count}
use Rattle.vb_bits.specs.Digits.{digits}
use Rattle.vb_bits.specs.Kept.{kept_by}
use Rattle.vb_bits.proofs.DigitsLemmas.{digits-add, length-digits, count-digits_below, digits_none}
use Rattle.vb_bits.proofs.BitsLemmas.{count-append, count-take-le}
use Rattle.vb_bits.proofs.KeptLemmas.{kept_by-append}
use Rattle.vb_pack.proofs.WordsLemmas.{digits_above}

-- a mask that is false selects nothing
pub kept_none : {T : Type 0} (n : ℕ) (xs : List T) → kept_by (replicate n false) xs ≡ []
kept_none zero xs = refl
kept_none (suc n) [] = refl
kept_none (suc n) (x ∷ xs) = kept_none n xs

-- a mask of n bits selects nothing after them
pub kept_by-narrow : (keep w n : ℕ) → keep < 2 ^ n → n ≤ 64
    → kept_by (digits keep 0 64) (digits w 0 64) ≡ kept_by (digits keep 0 n) (digits w 0 n)
kept_by-narrow keep w n clear few =
    let all : 64 ≡ n + (64 - n) = omega arith in
    let front = kept_by (digits keep 0 n) (digits w 0 n) in
    let behind = digits w (0 + n) (64 - n) in
    ap (λ l. kept_by l (digits w 0 64)) (digits_above keep n 64 clear few)
    ∙ ap (λ l. kept_by (digits keep 0 n ++ replicate (64 - n) false) l)
    (ap (digits w 0) all ∙ digits-add w 0 n (64 - n))
    ∙ kept_by-append (digits keep 0 n) (replicate (64 - n) false) (digits w 0 n) behind
    (length-digits keep 0 n ∙ sym (length-digits w 0 n))
    ∙ ap (λ l. front ++ l) (kept_none (64 - n) behind) ∙ append-nil front

-- a front, and n values more
pub front-add : {T : Type 0} (xs : List T) (a n : ℕ)
    → take (a + n) xs ≡ take a xs ++ slice_range xs a (a + n)
front-add xs a n =
    let len : a + n - a ≡ n = omega arith in
    take-add a n xs ∙ ap (λ k. take a xs ++ take k (drop a xs)) (sym len)

-- fronts of lists of one length
pub same_fronts : {T : Type 0} (k : List Bool) (l : List T) (i : ℕ) → length l ≡ length k
    → length (take i k) ≡ length (take i l)
same_fronts k l zero e = refl
same_fronts [] [] (suc i) e = refl
same_fronts [] (y ∷ l) (suc i) e = absurd (omega arith)
same_fronts (x ∷ k) [] (suc i) e = absurd (omega arith)
same_fronts (x ∷ k) (y ∷ l) (suc i) e = ap suc (same_fronts k l i (omega arith))

-- the values that n more bits of a mask select
pub kept_by-add : {T : Type 0} (mask : List Bool) (values : List T) (a n : ℕ)
    → length values ≡ length mask
    → kept_by (take (a + n) mask) (take (a + n) values)
    ≡ kept_by (take a mask) (take a values)
    ++ kept_by (slice_range mask a (a + n)) (slice_range values a (a + n))
kept_by-add mask values a n same =
    ap (λ l. kept_by l (take (a + n) values)) (front-add mask a n)
    ∙ ap (λ l. kept_by (take a mask ++ slice_range mask a (a + n)) l) (front-add values a n)
    ∙ kept_by-append (take a mask) (slice_range mask a (a + n)) (take a values)
    (slice_range values a (a + n)) (same_fronts mask values a same)

-- the end of a word, or of the list
pub word_end : {T : Type 0} (l : List T) (t n : ℕ) → n ≡ min (length l - 64 * t) 64
    → take (64 * (t + 1)) l ≡ take (64 * t + n) l
word_end l t n e = elim (cases_lt (length l) (64 * (t + 1))) [
  | inl last ↦ take_all (64 * (t + 1)) l (omega arith) ∙ sym (take_all (64 * t + n) l (omega arith))
  | inr full ↦ ap (λ k. take k l) (omega arith)
]

-- the values that n bits of a word select, and their number, with those of the words before it
pub record WordKept {T : Type 0} (mask : List Bool) (values : List T) (t n : ℕ) : Type 0 where
  pub front : kept_by (take (64 * (t + 1)) mask) (take (64 * (t + 1)) values)
      ≡ kept_by (take (64 * t) mask) (take (64 * t) values)
      ++ kept_by (slice_range mask (64 * t) (64 * t + n)) (slice_range values (64 * t) (64 * t + n))
  pub number : count (take (64 * t) mask) + count (slice_range mask (64 * t) (64 * t + n))
      ≡ count (take (64 * (t + 1)) mask)
  pub room : count (take (64 * t) mask) + count (slice_range mask (64 * t) (64 * t + n))
      ≤ count mask

pub word-kept_by : {T : Type 0} (mask : List Bool) (values : List T) (t n : ℕ)
    → length values ≡ length mask → n ≡ min (length mask - 64 * t) 64 → WordKept mask values t n
word-kept_by mask values t n same e =
    let there : n ≡ min (length values - 64 * t) 64 =
    e ∙ ap (λ k. min (k - 64 * t) 64) (sym same) in
    let more : count (take (64 * t + n) mask)
    ≡ count (take (64 * t) mask) + count (slice_range mask (64 * t) (64 * t + n)) =
    ap count (front-add mask (64 * t) n) ∙ count-append (take (64 * t) mask) _ in
    let number = sym more ∙ ap count (sym (word_end mask t n e)) in
    record {
      front = ap (λ l. kept_by l (take (64 * (t + 1)) values)) (word_end mask t n e)
          ∙ ap (kept_by (take (64 * t + n) mask)) (word_end values t n there)
          ∙ kept_by-add mask values (64 * t) n same;
      number = number;
      room = omega (arith, number, count-take-le (64 * (t + 1)) mask);
    }

-- the ones of a word of the mask
pub ones-of : (mask : List Bool) (keep a n : ℕ) → keep < 2 ^ n
    → digits keep 0 n ≡ slice_range mask a (a + n)
    → count (slice_range mask a (a + n)) ≡ count_ones keep
ones-of mask keep a n clear same = ap count (sym same) ∙ count-digits_below keep n clear

-- the bits that a word of the mask selects from a word of bits
pub kept_by-of : (mask values : List Bool) (keep w a n : ℕ) → keep < 2 ^ n → n ≤ 64
    → digits keep 0 n ≡ slice_range mask a (a + n)
    → digits w 0 n ≡ slice_range values a (a + n)
    → kept_by (digits keep 0 64) (digits w 0 64)
    ≡ kept_by (slice_range mask a (a + n)) (slice_range values a (a + n))
kept_by-of mask values keep w a n clear few of_mask of_values =
    kept_by-narrow keep w n clear few ∙ ap (λ l. kept_by l (digits w 0 n)) of_mask
    ∙ ap (kept_by (slice_range mask a (a + n))) of_values

-- a word without a one selects nothing
pub kept_by-zero : {T : Type 0} (keep n : ℕ) (xs : List T) → keep ≡ 0
    → kept_by (digits keep 0 n) xs ≡ []
kept_by-zero keep n xs gone =
    let small : keep < 2 ^ 0 = omega arith in
    ap (λ l. kept_by l xs) (digits_above keep 0 n small (omega arith))
    ∙ ap (λ l. kept_by (l ++ replicate (n - 0) false) xs) (digits_none keep 0)
    ∙ kept_none (n - 0) xs
