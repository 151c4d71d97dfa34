-- Words that start at whole bytes.
use Rattle.std.proofs.Common.{◌≡◌, ◌≢◌, ℕ, zero, suc, ◌+◌, ◌-◌, ◌*◌, ◌/◌, ◌%◌, ◌^◌, ◌<◌, ◌≤◌, Bool}
use Rattle.std.proofs.Common.{false, min, List, [], ◌∷◌, ◌++◌, length, map, take, drop, replicate}
use Rattle.std.proofs.Common.{refl, sym, ap, ◌∙◌, arith, inl, inr, subst, Option, Some, None}
use Rattle.std.specs.Prelude.{slice_range}
use Rattle.std.specs.Int.{div_ceil, to_le_bytes, w64}
use Rattle.std.specs.Simd.{first_chunks}
use Rattle.std.proofs.lemmas.List.{length-replicate, drop-drop, length-take, length-drop}
use Rattle.std.proofs.Math.Nat.{pow-suc, mul_assoc}
use Rattle.std.proofs.Math.Pow.{shl_lt, pow_mono}
use Rattle.std.proofs.lemmas.Bool.{cases_lt}
use Rattle.std.proofs.Math.Seq.{take-append-add, drop-append-add}
use Rattle.vb_bits.specs.Bits.{bit_of, bits}
use Rattle.vb_bits.specs.Digits.{digits}
use Rattle.vb_bits.proofs.BitsLemmas.{length-bits, drop-bits, same_bits}
use Rattle.vb_bits.proofs.BytesLemmas.{bits-slice_range}
use Rattle.vb_bits.proofs.ReadLemmas.{digits_of_word}
use Rattle.vb_bits.proofs.WindowLemmas.{bits-take_bytes, bit_of-drop}
use Rattle.vb_walk.specs.Words.{bits_number, word, words, item_of}
use Rattle.vb_walk.specs.Cut.{cut_words, word_of, IsCut}
use Rattle.vb_walk.proofs.WordsLemmas.{number_is, length-words, words_none, words_cons, words_push}
use Rattle.vb_walk.proofs.WordsLemmas.{words_front, word-bits, word_read, take-window}

-- ---- values after false values
-- the number that they represent
bits_number-behind : (s : ℕ) (l : List Bool)
    → bits_number (replicate s false ++ l) ≡ bits_number l * 2 ^ s
bits_number-behind zero l = omega arith
bits_number-behind (suc s) l =
    let twice : bits_number l * 2 ^ s * 2 ≡ bits_number l * 2 ^ suc s =
    mul_assoc (bits_number l) (2 ^ s) 2 ∙ ap (λ x. bits_number l * x) (sym (pow-suc 2 s)) in
    omega (arith, bits_number-behind s l)

-- the first word of a window after s false values
pub first_word : (b : List ℕ) (o n s w : ℕ) → s < 8 → digits w 0 (min n (64 - s)) ≡ bits b o
    (min n (64 - s)) → w < 2 ^ min n (64 - s) → word (replicate s false ++ bits b o n) 0 ≡ w * 2 ^ s
first_word b o n s w small read clear =
    let size : 64 ≡ length (replicate s false) + (64 - s) =
    omega (arith, length-replicate s false) in
    let least : min (64 - s) n ≡ min n (64 - s) = omega arith in
    ap (λ k. bits_number (take k (replicate s false ++ bits b o n))) size
    ∙ ap bits_number (take-append-add (replicate s false) (bits b o n)
    (64 - s) ∙ ap (λ l. replicate s false ++ l) (take-window b o n (64 - s)))
    ∙ bits_number-behind s (bits b o (min (64 - s) n))
    ∙ ap (λ k. bits_number (bits b o k) * 2 ^ s) least
    ∙ ap (λ x. x * 2 ^ s) (number_is w (min n (64 - s)) (bits b o (min n (64 - s))) read clear)

-- the words after the first are those of the window after them
pub word_behind : (b : List ℕ) (o n s k : ℕ) → s ≡ o % 8 → 64 ≤ s + n → word
    (replicate s false ++ bits b o n) (suc k) ≡ word (bits b (8 * (o / 8 + 8)) (s + n - 64)) k
word_behind b o n s k e long =
    let m : ℕ = 64 - s in
    let size : 64 * suc k ≡ length (replicate s false) + (m + 64 * k) =
    omega (arith, length-replicate s false) in
    let whole : n ≡ m + (s + n - 64) = omega arith in
    let at : o + m ≡ 8 * (o / 8 + 8) = omega arith in
    ap (λ x. bits_number (take 64 (drop x (replicate s false ++ bits b o n)))) size
    ∙ ap (λ l. bits_number (take 64 l))
    (drop-append-add
    (replicate s false) (bits b o n) (m + 64 * k) ∙ sym (drop-drop (64 * k) m (bits b o n))
    ∙ ap (λ x. drop (64 * k) (drop m (bits b o x))) whole
    ∙ ap (drop (64 * k)) (drop-bits b o m (s + n - 64) ∙ ap (λ x. bits b x (s + n - 64)) at))

-- ---- chunks of eight bytes
-- a chunk as a number that was read
pub word_of_read : (c : List ℕ) (w : ℕ)
    → to_le_bytes w64 w ≡ slice_range c 0 (0 + 8) → w < 2 ^ 64 → word_of c ≡ w
word_of_read c w read clear = number_is w 64 (bits c 0 64) (digits_of_word c w 0 read) clear

-- bits after the first eight bytes
bits_behind : (xs : List ℕ) (o n : ℕ) → bits (drop 8 xs) o n ≡ bits xs (64 + o) n
bits_behind xs o n =
    same_bits (drop 8 xs) xs o (64 + o) n
    (λ i l. let at : 8 * 8 + (o + i) ≡ 64 + o + i =
    omega arith in bit_of-drop 8 xs (o + i) ∙ ap (bit_of xs) at)

-- chunks are words of the bits
chunk_words : (xs : List ℕ) (k : ℕ)
    → map word_of (first_chunks 8 k xs) ≡ words (bits xs 0 (64 * k)) k
chunk_words xs zero = sym (words_none (bits xs 0 (64 * zero)))
chunk_words xs (suc k) =
    let size : min 64 (64 * suc k - 64 * 0) ≡ 64 = omega arith in
    let first : word (bits xs 0 (64 * suc k)) 0 ≡ word_of (take 8 xs) =
    word-bits xs 0 (64 * suc k) 0 (omega arith) ∙ ap (λ x. bits_number (bits xs 0 x)) size
    ∙ ap bits_number (sym (bits-take_bytes 8 xs 0 64 (omega arith))) in
    ap (λ ws. word_of (take 8 xs) ∷ ws) (chunk_words (drop 8 xs) k)
    ∙ ap (λ x. x ∷ words (bits (drop 8 xs) 0 (64 * k)) k) (sym first)
    ∙ sym (words_cons (bits xs 0 (64 * suc k)) (bits (drop 8 xs) 0 (64 * k)) k
    (λ i lt.
    let rest : min 64 (64 * suc k - 64 * suc i) ≡ min 64 (64 * k - 64 * i) = omega arith in
    let at : 0 + 64 * suc i ≡ 64 + (0 + 64 * i) = omega arith in
    word-bits xs 0 (64 * suc k) (suc i) (omega arith)
    ∙ ap (λ x. bits_number (bits xs (0 + 64 * suc i) x)) rest
    ∙ ap (λ x. bits_number (bits xs x (min 64 (64 * k - 64 * i)))) at
    ∙ ap bits_number (sym (bits_behind xs (0 + 64 * i) (min 64 (64 * k - 64 * i))))
    ∙ sym (word-bits (drop 8 xs) 0 (64 * k) i (omega arith))))

-- the chunks of a run of bytes are words of its bits
chunk_words_of : (b : List ℕ) (start k : ℕ) → map word_of
    (first_chunks 8 k (slice_range b start (start + 8 * k))) ≡ words (bits b (8 * start) (64 * k)) k
chunk_words_of b start k =
    let size : 8 * (8 * k) ≡ 64 * k = omega arith in
    chunk_words (slice_range b start (start + 8 * k)) k
    ∙ ap (λ n. words (bits (slice_range b start (start + 8 * k)) 0 n) k) (sym size)
    ∙ ap (λ l. words l k) (bits-slice_range b start (8 * k))
    ∙ ap (λ n. words (bits b (8 * start) n) k) size

-- with the last word separate
pub words_apart : (b : List ℕ) (start n k end w : ℕ) (cs : List (List ℕ))
    → 0 < n → k ≡ (n - 1) / 64 → end ≡ start + 8 * k → end ≤ length b
    → cs ≡ first_chunks 8 (length (slice_range b start end) / 8) (slice_range b start end)
    → digits w 0 (n - 64 * k) ≡ bits b (8 * end) (n - 64 * k) → w < 2 ^ (n - 64 * k)
    → map word_of cs ++ w ∷ [] ≡ words (bits b (8 * start) n) (div_ceil n 64)
words_apart b start n k end w cs some full at within read rest clear =
    let long : length (slice_range b start end) / 8 ≡ k =
    omega (arith, length-take (end - start) (drop start b), length-drop start b) in
    let all : div_ceil n 64 ≡ k + 1 = omega arith in
    ap (λ c. map word_of c ++ w ∷ []) (read ∙ ap (λ x. first_chunks 8 x (slice_range b start end))
    long ∙ ap (λ x. first_chunks 8 k (slice_range b start x)) at)
    ∙ ap (λ ws. ws ++ w ∷ []) (chunk_words_of b start k
    ∙ sym (words_front b (8 * start) n k (omega arith)))
    ∙ ap (λ x. words (bits b (8 * start) n) k ++ x ∷ []) (sym (word_read b (8 * start) n k w
    (8 * end) (n - 64 * k) rest clear (omega arith) (omega arith) (omega arith)))
    ∙ sym (words_push (bits b (8 * start) n) k) ∙ ap (words (bits b (8 * start) n)) (sym all)

-- ---- all words of a window
-- the words of a list that isn't empty
cut_some : (s : ℕ) (l : List Bool)
    → length l ≢ 0 → cut_words s l ≡ words (replicate s false ++ l) (div_ceil (s + length l) 64)
cut_some s [] h = absurd (h refl)
cut_some s (b ∷ l) h = refl

-- no values have no words
cut_none : (s : ℕ) (l : List Bool) → length l ≡ 0 → cut_words s l ≡ []
cut_none s [] h = refl
cut_none s (b ∷ l) h = absurd (omega arith)

-- a window of no bits
pub IsCut_none : (s : ℕ) (l : List Bool) → length l ≡ 0 → IsCut s l
    (record { lead_padding = 0; trailing_padding = 0; prefix = None; chunks = []; suffix = None })
IsCut_none s l e = record {
  words = sym (cut_none s l e);
  prefix = λ _. (refl, refl);
  suffix = λ _. refl;
  lead = λ h. absurd (h e);
  none = λ _. refl;
  trailing = omega arith;
}

-- the words of a window that ends in the first word
words_alone : (b : List ℕ) (o n s w : ℕ) → s < 8 → 0 < n
    → s + n ≤ 64 → digits w 0 (min n (64 - s)) ≡ bits b o (min n (64 - s)) → w < 2 ^ min n (64 - s)
    → words (replicate s false ++ bits b o n) (div_ceil (s + n) 64) ≡ w * 2 ^ s ∷ []
words_alone b o n s w small some short read clear =
    let l : List Bool = replicate s false ++ bits b o n in
    let one : div_ceil (s + n) 64 ≡ suc 0 = omega arith in
    ap (words l) one ∙ words_cons l l 0 (λ k h. absurd (omega arith))
    ∙ ap (λ ws. word l 0 ∷ ws) (words_none l)
    ∙ ap (λ x. x ∷ []) (first_word b o n s w small read clear)

-- the words of a window that ends after it
words_many : (b : List ℕ) (o n s w : ℕ) → s ≡ o % 8
    → 64 < s + n → digits w 0 (min n (64 - s)) ≡ bits b o (min n (64 - s)) → w < 2 ^ min n (64 - s)
    → words (replicate s false ++ bits b o n) (div_ceil (s + n) 64)
    ≡ w * 2 ^ s ∷ words (bits b (8 * (o / 8 + 8)) (s + n - 64)) (div_ceil (s + n - 64) 64)
words_many b o n s w e long read clear =
    let l : List Bool = replicate s false ++ bits b o n in
    let m : List Bool = bits b (8 * (o / 8 + 8)) (s + n - 64) in
    let one_more : div_ceil (s + n) 64 ≡ suc (div_ceil (s + n - 64) 64) = omega arith in
    ap (words l) one_more
    ∙ words_cons l m (div_ceil (s + n - 64) 64) (λ k h. word_behind b o n s k e (omega arith))
    ∙ ap (λ x. x ∷ words m (div_ceil (s + n - 64) 64))
    (first_word b o n s w (omega arith) read clear)

-- shifting a first word up loses no digit
shifted_fits : (w s m : ℕ) → w < 2 ^ m → s + m ≤ 64 → w * 2 ^ s % 2 ^ 64 ≡ w * 2 ^ s
shifted_fits w s m clear within =
    let small : w * 2 ^ s < 2 ^ (m + s) = shl_lt m s clear in
    let all : m + s ≤ 64 = omega arith in
    let most : 2 ^ (m + s) ≤ 2 ^ 64 = pow_mono all in
    let fits : w * 2 ^ s < 2 ^ 64 = omega arith in
    omega arith

-- the words of a window, of which the first was read as w, and the others are in two parts
pub IsCut_some : (b : List ℕ) (o n m k w : ℕ) (cs : List ℕ) (r : Option ℕ)
    → n ≢ 0 → m ≡ min n (64 - o % 8) → k ≡ o % 8 + n - 64
    → digits w 0 m ≡ bits b o m → w < 2 ^ m
    → (0 < k → cs ++ item_of r ≡ words (bits b (8 * (o / 8 + 8)) k) (div_ceil k 64))
    → (0 < k → r ≢ None) → (k ≡ 0 → (cs ≡ []) × (r ≡ None))
    → IsCut (o % 8) (bits b o n)
    (record {
      lead_padding = o % 8;
      trailing_padding = (64 - (o % 8 + n) % 64) % 64;
      prefix =
          Some (w * 2 ^ (o % 8) % 2 ^ 64);
      chunks = cs;
      suffix = r;
    })
IsCut_some b o n m k w cs r some em ek read clear many last none =
    let s : ℕ = o % 8 in
    let l : List Bool = bits b o n in
    let x : ℕ = w * 2 ^ s in
    let size : length l ≡ n = length-bits b o n in
    let fits : x % 2 ^ 64 ≡ x = shifted_fits w s m clear (omega arith) in
    let read_min : digits w 0 (min n (64 - s)) ≡ bits b o (min n (64 - s)) =
    subst (λ i. digits w 0 i ≡ bits b o i) em read in
    let clear_min : w < 2 ^ min n (64 - s) = subst (λ i. w < 2 ^ i) em clear in
    let behind : words (replicate s false ++ l) (div_ceil (s + n) 64) ≡ x ∷ cs ++ item_of r =
    elim (cases_lt 64 (s + n)) [
      | inl long ↦
          words_many b o n s w refl long read_min clear_min
          ∙ ap (λ i. x ∷ words (bits b (8 * (o / 8 + 8)) i) (div_ceil i 64)) (sym ek)
          ∙ ap (λ ws. x ∷ ws) (sym (many (omega arith)))
      | inr short ↦
          let end = none (omega arith) in
          words_alone b o n s w (omega arith) (omega arith) short read_min clear_min
          ∙ ap (λ c. x ∷ c ++ item_of None) (sym end.0) ∙ ap (λ i. x ∷ cs ++ item_of i) (sym end.1)
    ] in
    let all : words (replicate s false ++ l) (div_ceil (s + length l) 64)
    ≡ (x % 2 ^ 64) ∷ cs ++ item_of r =
    ap (λ i. words (replicate s false ++ l) (div_ceil (s + i) 64)) size
    ∙ behind ∙ ap (λ i. i ∷ cs ++ item_of r) (sym fits) in
    let count : length ((x % 2 ^ 64) ∷ cs ++ item_of r) ≡ div_ceil (s + n) 64 =
    ap length (sym all) ∙ length-words (replicate s false ++ l) (div_ceil (s + length l) 64)
    ∙ ap (λ i. div_ceil (s + i) 64) size in
    record {
      words = sym (cut_some s l (λ e. some (sym size ∙ e)) ∙ all);
      prefix = λ e. absurd cc;
      suffix = λ e. elim (cases_lt 0 k) [
        | inl there ↦ absurd (last there e)
        | inr nothing ↦ (none (omega arith)).0
      ];
      lead = λ _. refl;
      none = λ e. absurd (some (sym size ∙ e));
      trailing = omega arith;
    }

-- ---- for `#[tactic(auto, using(..))]`
-- cuts of windows
pub ruleset cuts = (word_of_read, words_apart, length-bits, IsCut_none, IsCut_some)
