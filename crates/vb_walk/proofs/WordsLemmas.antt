-- Words of lists of truth values, and of windows.
use Rattle.std.proofs.Common.{◌≡◌, ◌≢◌, ℕ, zero, suc, ◌+◌, ◌-◌, ◌*◌, ◌/◌, ◌%◌, ◌^◌, ◌<◌, ◌≤◌, Bool}
use Rattle.std.proofs.Common.{true, false, min, List, [], ◌∷◌, ◌++◌, length, take, drop, refl}
use Rattle.std.proofs.Common.{sym, ap, ◌∙◌, arith, zero-add, inl, inr}
use Rattle.std.proofs.lemmas.List.{take_all}
use Rattle.std.proofs.lemmas.List.FromFn.{length-map-range_with_len, map-range_with_len_more}
use Rattle.std.proofs.lemmas.List.Sums.{sum_by_push}
use Rattle.std.proofs.lemmas.Bool.{cases_lt}
use Rattle.std.proofs.lemmas.Nat.{ones_le_self}
use Rattle.std.specs.Int.Count.{ones_step}
use Rattle.std.proofs.Math.Nat.{pow-suc}
use Rattle.std.proofs.Math.Seq.{take-add}
use Rattle.std.specs.List.{sum_by}
use Rattle.std.specs.Prelude.{count_ones}
use Rattle.vb_bits.specs.Bits.{bits, count}
use Rattle.vb_bits.specs.Digits.{digits}
use Rattle.vb_bits.proofs.BitsLemmas.{length-bits, take-bits, drop-bits, count-cons}
use Rattle.vb_bits.proofs.BitsLemmas.{count-append}
use Rattle.vb_bits.proofs.DigitsLemmas.{digits_none, digits-suc, lowest}
use Rattle.vb_bits.proofs.RangeLemmas.{same_map-range_with_len}
use Rattle.vb_walk.specs.Words.{bits_number, word, words, full_words, padded_words}

-- ---- numbers
-- the digits of a number represent it
pub bits_number-digits : (w n : ℕ) → w < 2 ^ n → bits_number (digits w 0 n) ≡ w
bits_number-digits w zero h = ap bits_number (digits_none w 0) ∙ omega arith
bits_number-digits w (suc n) h =
    let small : w / 2 < 2 ^ n = omega (arith, pow-suc 2 n) in
    ap bits_number (digits-suc w n) ∙ omega (arith, lowest w, bits_number-digits (w / 2) n small)

-- a number whose digits are a list
pub number_is : (w n : ℕ) (l : List Bool) → digits w 0 n ≡ l → w < 2 ^ n → bits_number l ≡ w
number_is w n l e h = ap bits_number (sym e) ∙ bits_number-digits w n h

-- ---- words
-- n words have length n
pub length-words : (l : List Bool) (n : ℕ) → length (words l n) ≡ n
unfolding words
length-words l n = length-map-range_with_len (word l) 0 n

-- no words
pub words_none : (l : List Bool) → words l 0 ≡ []
unfolding words
words_none l = refl

-- the first word and the others, which are words of another list
pub words_cons : (l m : List Bool) (n : ℕ)
    → ((k : ℕ) → k < n → word l (suc k) ≡ word m k) → words l (suc n) ≡ word l 0 ∷ words m n
unfolding words
words_cons l m n h =
    ap (λ ws. word l 0 ∷ ws) (same_map-range_with_len (word l) (word m) 1 0 n
    (λ k lt.
    let e : 1 + k ≡ suc k = omega arith in
    let z : 0 + k ≡ k = omega arith in
    ap (word l) e ∙ h k lt ∙ ap (word m) (sym z)))

-- two lists with the same words
pub same_words : (l m : List Bool) (n : ℕ)
    → ((k : ℕ) → k < n → word l k ≡ word m k) → words l n ≡ words m n
unfolding words
same_words l m n h =
    same_map-range_with_len (word l) (word m) 0 0 n
    (λ k lt. let z : 0 + k ≡ k = omega arith in ap (word l) z ∙ h k lt ∙ ap (word m) (sym z))

-- ---- words of windows
-- the front of a window, or all of it if it is shorter
pub take-window : (b : List ℕ) (o n k : ℕ) → take k (bits b o n) ≡ bits b o (min k n)
take-window b o n k = elim (cases_lt k n) [
  | inl shorter ↦
      let e : min k n ≡ k = omega arith in
      take-bits b o n k (omega arith) ∙ ap (bits b o) (sym e)
  | inr all ↦
      let e : min k n ≡ n = omega arith in
      take_all k (bits b o n) (omega (arith, length-bits b o n)) ∙ ap (bits b o) (sym e)
]

-- a word of a window
pub word-bits : (b : List ℕ) (o n k : ℕ)
    → 64 * k ≤ n → word (bits b o n) k ≡ bits_number (bits b (o + 64 * k) (min 64 (n - 64 * k)))
word-bits b o n k h =
    let e : n ≡ 64 * k + (n - 64 * k) = omega arith in
    ap (λ x. bits_number (take 64 (drop (64 * k) (bits b o x)))) e
    ∙ ap (λ l. bits_number (take 64 l)) (drop-bits b o (64 * k) (n - 64 * k))
    ∙ ap bits_number (take-window b (o + 64 * k) (n - 64 * k) 64)

-- a word of a window, as a number that was read
pub word_read : (b : List ℕ) (o n k w p m : ℕ) → digits w 0 m ≡ bits b p m
    → w < 2 ^ m → 64 * k ≤ n → p ≡ o + 64 * k → m ≡ min 64 (n - 64 * k) → word (bits b o n) k ≡ w
word_read b o n k w p m read clear h at size =
    word-bits b o n k h ∙ ap (λ x. bits_number (bits b x (min 64 (n - 64 * k)))) (sym at)
    ∙ ap (λ x. bits_number (bits b p x)) (sym size)
    ∙ number_is w m (bits b p m) read clear

-- the first of full words, and those after it
pub words_step : (b : List ℕ) (o n w : ℕ) → digits w 0 64 ≡ bits b o 64
    → w < 2 ^ 64 → words (bits b o (64 * suc n)) (suc n) ≡ w ∷ words (bits b (o + 64) (64 * n)) n
words_step b o n w read clear =
    words_cons (bits b o (64 * suc n)) (bits b (o + 64) (64 * n)) n
    (λ k lt.
    let at : o + 64 * suc k ≡ o + 64 + 64 * k = omega arith in
    let size : min 64 (64 * suc n - 64 * suc k) ≡ min 64 (64 * n - 64 * k) = omega arith in
    word-bits b o (64 * suc n) (suc k) (omega arith)
    ∙ ap (λ x. bits_number (bits b x (min 64 (64 * suc n - 64 * suc k)))) at
    ∙ ap (λ x. bits_number (bits b (o + 64 + 64 * k) x)) size
    ∙ sym (word-bits b (o + 64) (64 * n) k (omega arith)))
    ∙ ap (λ x. x ∷ words (bits b (o + 64) (64 * n)) n)
    (word_read b o (64 * suc n) 0 w o 64 read clear (omega arith) (omega arith) (omega arith))

-- full words don't depend on bits outside their window
pub words_front : (b : List ℕ) (o n k : ℕ)
    → 64 * k ≤ n → words (bits b o n) k ≡ words (bits b o (64 * k)) k
words_front b o n k h =
    same_words (bits b o n) (bits b o (64 * k)) k
    (λ i lt.
    let size : min 64 (n - 64 * i) ≡ min 64 (64 * k - 64 * i) = omega arith in
    word-bits b o n i (omega arith) ∙ ap (λ x. bits_number (bits b (o + 64 * i) x)) size
    ∙ sym (word-bits b o (64 * k) i (omega arith)))

-- n words, and the word after them
pub words_push : (l : List Bool) (n : ℕ) → words l (n + 1) ≡ words l n ++ word l n ∷ []
unfolding words
words_push l n = map-range_with_len_more (word l) 0 n n (zero-add n)

-- ---- chunks
-- the remaining full words after the first
pub next_chunk : (b : List ℕ) (byte shift left w : ℕ) (l : List ℕ)
    → words (bits b (8 * byte + shift) (64 * left)) left
    ≡ l → left ≢ 0 → digits w 0 64 ≡ bits b (8 * byte + shift) 64 → w < 2 ^ 64
    → l ≡ w ∷ words (bits b (8 * (byte + 8) + shift) (64 * (left - 1))) (left - 1)
next_chunk b byte shift left w l e some read clear =
    let more : left ≡ suc (left - 1) = omega arith in
    let at : 8 * byte + shift + 64 ≡ 8 * (byte + 8) + shift = omega arith in
    sym e ∙ ap (λ n. words (bits b (8 * byte + shift) (64 * n)) n) more
    ∙ words_step b (8 * byte + shift) (left - 1) w read clear
    ∙ ap (λ o. w ∷ words (bits b o (64 * (left - 1))) (left - 1)) at

-- the full words of a window
pub full_words_of : (b : List ℕ) (o n : ℕ) (l : List Bool)
    → bits b o n ≡ l → words (bits b (8 * (o / 8) + o % 8) (64 * (n / 64))) (n / 64) ≡ full_words l
full_words_of b o n l e =
    let at : 8 * (o / 8) + o % 8 ≡ o = omega arith in
    let len : n ≡ length l = sym (length-bits b o n) ∙ ap length e in
    ap (λ p. words (bits b p (64 * (n / 64))) (n / 64)) at
    ∙ sym (words_front b o n (n / 64) (omega arith))
    ∙ ap (λ m. words m (n / 64)) e ∙ ap (λ m. words l (m / 64)) len

-- the word after them
pub remainder_of : (b : List ℕ) (o n w : ℕ) (l : List Bool)
    → bits b o n ≡ l → digits w 0 (n - n / 64 * 64) ≡ bits b (o + n / 64 * 64) (n - n / 64 * 64)
    → w < 2 ^ (n - n / 64 * 64) → w ≡ word l (length l / 64)
remainder_of b o n w l e read clear =
    let len : n ≡ length l = sym (length-bits b o n) ∙ ap length e in
    sym (word_read b o n (n / 64) w (o + n / 64 * 64) (n - n / 64 * 64) read clear (omega arith)
    (omega arith) (omega arith))
    ∙ ap (λ m. word m (n / 64)) e ∙ ap (λ m. word l (m / 64)) len

-- ---- ones
-- the set digits of a number are the values that are true
pub count_ones-bits_number : (l : List Bool) → count_ones (bits_number l) ≡ count l
count_ones-bits_number [] = omega (arith, ones_le_self 0)
count_ones-bits_number (true ∷ l) =
    let w : ℕ = 1 + 2 * bits_number l in
    let half : w / 2 ≡ bits_number l = omega arith in
    ones_step w ∙ omega (
      arith,
      ap count_ones half,
      count_ones-bits_number l,
      count-cons true l,
    )
count_ones-bits_number (false ∷ l) =
    let w : ℕ = 0 + 2 * bits_number l in
    let half : w / 2 ≡ bits_number l = omega arith in
    ones_step w ∙ omega (
      arith,
      ap count_ones half,
      count_ones-bits_number l,
      count-cons false l,
    )

-- the set digits of words are the values that are true in them
pub sum_by-words : (l : List Bool) (n : ℕ)
    → sum_by count_ones (words l n) ≡ count (take (64 * n) l)
sum_by-words l zero = ap (sum_by count_ones) (words_none l)
sum_by-words l (suc n) =
    let more : suc n ≡ n + 1 = omega arith in
    let size : 64 * suc n ≡ 64 * n + 64 = omega arith in
    ap (λ k. sum_by count_ones (words l k)) more ∙ ap (sum_by count_ones) (words_push l n)
    ∙ sum_by_push count_ones (words l n) (word l n)
    ∙ omega (
      arith,
      sum_by-words l n,
      count_ones-bits_number (take 64 (drop (64 * n) l)),
      ap (λ k. count (take k l)) size,
      ap count (take-add (64 * n) 64 l),
      count-append (take (64 * n) l) (take 64 (drop (64 * n) l)),
    )

-- the words of `iter_padded` contain all true values
pub sum_by-padded_words : (l : List Bool) → sum_by count_ones (padded_words l) ≡ count l
sum_by-padded_words l = sum_by-words l (length l / 64 + 1)
    ∙ ap count (take_all (64 * (length l / 64 + 1)) l (omega arith))

-- ---- for `#[tactic(auto, using(..))]`
-- chunks of windows
pub ruleset chunks =
    (length-bits, length-words, words_none, words_push, full_words_of, remainder_of)
