-- The indices of a word with which a closure is called.
use Rattle.std.proofs.Common.{◌≡◌, inl, inr, ℕ, zero, suc, ◌+◌, ◌-◌, ◌*◌, ◌/◌, ◌%◌, ◌^◌, ◌<◌, ◌≤◌}
use Rattle.std.proofs.Common.{Bool, not, cond, true, false, ◌&&◌, eqb, List, [], ◌∷◌, ◌++◌, length}
use Rattle.std.proofs.Common.{get_or, filter, refl}
use Rattle.std.proofs.Common.{sym, ap, ◌∙◌, arith}
use Rattle.std.specs.Int.{trailing_zeros, w64}
use Rattle.std.specs.Prelude.{count_ones}
use Rattle.std.specs.Int.Bits.{bit_and}
use Rattle.std.specs.List.{range_with_len}
use Rattle.std.proofs.lemmas.Bool.{cases_lt, false≢true}
use Rattle.std.proofs.lemmas.List.{length-map, get_or-map, append-nil}
use Rattle.std.proofs.lemmas.List.Elements.{filter-append}
use Rattle.std.proofs.lemmas.Nat.{and_le_r}
use Rattle.std.proofs.lemmas.Nat.Bits.{bit_at-trailing_zeros, bit_at_above, bit_at_ones}
use Rattle.vb_bits.specs.Bits.{at, bit_of, bits, holes, complement, places}
use Rattle.vb_bits.specs.Digits.{digits, has_bit}
use Rattle.vb_bits.proofs.BitsLemmas.{length-bits, at-bits}
use Rattle.vb_bits.proofs.DigitsLemmas.{at-digits, has_bit-and, has_bit-bit_not}
use Rattle.vb_bits.proofs.DigitsLemmas.{count-digits_below}
use Rattle.vb_bits.proofs.PlacesLemmas.{length-places}
use Rattle.vb_bits.proofs.RangeLemmas.{range_with_len-add, same_filter-range_with_len}
use Rattle.vb_bits.proofs.ReadLemmas.{has_bit-bits}
use Rattle.vb_bits.proofs.WindowLemmas.{digits-clear}
use Rattle.vb_bit_buffer.specs.Called.{places_of, ones_of}
use Rattle.vb_pack.specs.Asked.{span}
use Rattle.vb_walk.specs.Walks.{places_in, others, AreAll, IsOther}
use Rattle.vb_walk.specs.declared.other_word.OtherWord.{OtherWord}
use Rattle.vb_walk.proofs.OnesLemmas.{lowest_off}
use Rattle.vb_walk.proofs.PlacesLemmas.{places_in_none, places_in_cons, places_in_empty}
use Rattle.vb_walk.proofs.PlacesLemmas.{places_in_first, same_places_in, places-digits}

-- indices cut in two
places_in-add : (t : ℕ → Bool) (a m n : ℕ)
    → places_in t a (m + n) ≡ places_in t a m ++ places_in t (a + m) n
unfolding places_in
places_in-add t a m n = ap (filter t) (range_with_len-add a m n)
    ∙ filter-append t (range_with_len a m) (range_with_len (a + m) n)

pub places_in-cut : (t : ℕ → Bool) (a b m n k : ℕ)
    → b ≡ a + m → n ≡ m + k → places_in t a n ≡ places_in t a m ++ places_in t b k
places_in-cut t a b m n k from whole = ap (places_in t a) whole
    ∙ places_in-add t a m k ∙ ap (λ x. places_in t a m ++ places_in t x k) (sym from)

-- the first index of a span, and the others
pub span_first : (a n : ℕ) → 0 < n → span a n ≡ a ∷ span (a + 1) (n - 1)
unfolding span
span_first a n some = let e : n ≡ suc (n - 1) = omega arith in ap (range_with_len a) e

-- no indices
pub span_none : (a : ℕ) → span a 0 ≡ []
unfolding span
span_none a = refl

-- the indices of the false bits of a window
pub places_in-holes : (b : List ℕ) (o n : ℕ)
    → places_in (λ i. not (bit_of b (o + i))) 0 n ≡ holes (bits b o n)
unfolding places places_in
places_in-holes b o n =
    let l : List Bool = bits b o n in
    let long : length (complement l) ≡ n = length-map l not ∙ length-bits b o n in
    same_filter-range_with_len (λ i. not (bit_of b (o + i))) (at (complement l)) 0 n
    (λ i lo hi. sym (get_or-map not l i false false (omega (arith, length-bits b o n))
    ∙ ap not (at-bits b o n i false (omega arith))))
    ∙ ap (λ k. filter (at (complement l)) (range_with_len 0 k)) (sym long)

-- ---- indices whose bit is a given value
-- a bit of the other value
pub valued_other : (v x : Bool) → x ≡ not v → cond v x (not x) ≡ false
valued_other true x e = e
valued_other false x e = ap not e

-- digit i of `others (not v) w` is true exactly if digit i of w is v
pub valued_digit : (v : Bool) (w i : ℕ) → w < 2 ^ 64 → i < 64
    → has_bit (others (not v) w) i ≡ cond v (has_bit w i) (not (has_bit w i))
valued_digit true w i small h = refl
valued_digit false w i small h = has_bit-bit_not w64 w i small h

pub others_fit : (v : Bool) (w : ℕ) → w < 2 ^ 64 → others (not v) w < 2 ^ 64
others_fit true w small = small
others_fit false w small = omega arith

-- no indices, if all bits have the other value
pub places_of_none : (b : List ℕ) (o : ℕ) (v : Bool) (a n : ℕ)
    → ((i : ℕ) → a ≤ i → i < a + n → bit_of b (o + i) ≡ not v) → places_of b o v a n ≡ []
places_of_none b o v a n others =
    places_in_empty (λ i. cond v (bit_of b (o + i)) (not (bit_of b (o + i)))) a n
    (λ i lo hi. valued_other v (bit_of b (o + i)) (others i lo hi))

-- ---- the true digits of a word
-- a true digit is below any n with w < 2 ^ n
pub one_below : (w n i : ℕ) → w < 2 ^ n → has_bit w i ≡ true → i < n
one_below w n i small one = elim (cases_lt i n) [
  | inl l ↦ l
  | inr g ↦ absurd (false≢true (sym (ap (λ x. eqb x 1) (bit_at_above w n i small g)) ∙ one))
]

-- a true digit of a word without its lowest true digit
pub one_of_fewer : (w i : ℕ) → has_bit (bit_and w (w - 1)) i ≡ true → has_bit w i ≡ true
one_of_fewer w i one = left (has_bit w i) (has_bit (w - 1) i) (sym (has_bit-and w (w - 1) i) ∙ one)
  where
    left : (x y : Bool) → (x && y) ≡ true → x ≡ true
    left true y e = refl
    left false y e = e

-- the true digits of a word of n digits
ones_of-few : (w a n : ℕ) → n ≤ 64 → w < 2 ^ n
    → places_in (λ i. has_bit w (i - a)) a n ≡ ones_of w a
ones_of-few w a n few small =
    let t : ℕ → Bool = λ i. has_bit w (i - a) in
    let none : places_in t (a + n) (64 - n) ≡ [] =
    places_in_empty t (a + n) (64 - n)
    (λ i lo hi. ap (λ x. eqb x 1) (bit_at_above w n (i - a) small (omega arith))) in
    sym (places_in-cut t a (a + n) n 64 (64 - n) refl (omega arith)
    ∙ ap (λ l. places_in t a n ++ l) none ∙ append-nil (places_in t a n))

-- these are the indices of a window whose bit is v, if each digit shows whether the bit there is v
pub places_of-ones : (b : List ℕ) (o : ℕ) (v : Bool) (a n w : ℕ) → n ≤ 64 → w < 2 ^ n
    → ((i : ℕ) → i < n
    → has_bit w i ≡ cond v (bit_of b (o + (a + i))) (not (bit_of b (o + (a + i)))))
    → places_of b o v a n ≡ ones_of w a
places_of-ones b o v a n w few small read =
    let value : ℕ → Bool = λ i. cond v (bit_of b (o + i)) (not (bit_of b (o + i))) in
    same_places_in value (λ i. has_bit w (i - a)) a n
    (λ i lo hi.
    let place : a + (i - a) ≡ i = omega arith in
    sym (read (i - a) (omega arith) ∙ ap value place)) ∙ ones_of-few w a n few small

-- a window as its first part, whole words, and the rest
pub window_cut : (b : List ℕ) (o : ℕ) (v : Bool) (n first : ℕ) → first ≤ n
    → places_of b o v 0 n ≡ places_of b o v 0 first
    ++ (places_of b o v first (64 * ((n - first) / 64))
    ++ places_of b o v (first + 64 * ((n - first) / 64)) ((n - first) % 64))
window_cut b o v n first inside =
    let value : ℕ → Bool = λ i. cond v (bit_of b (o + i)) (not (bit_of b (o + i))) in
    let m : ℕ = 64 * ((n - first) / 64) in let rest : ℕ = (n - first) % 64 in
    places_in-cut value 0 first first n (m + rest) (omega arith) (omega arith)
    ∙ ap (λ l. places_of b o v 0 first ++ l)
    (places_in-cut value first (first + m) m (m + rest) rest refl refl)

-- a word that was read, with each digit replaced by whether the bit there is v
pub valued_read : (b : List ℕ) (o : ℕ) (v : Bool) (a n r w : ℕ)
    → n ≤ 64 → r < 2 ^ 64 → digits r 0 n ≡ bits b (o + a) n
    → digits w 0 n ≡ digits (others (not v) r) 0 n → (i : ℕ) → i < n
    → has_bit w i ≡ cond v (bit_of b (o + (a + i))) (not (bit_of b (o + (a + i))))
valued_read b o v a n r w few fits read same i l =
    let place : o + a + i ≡ o + (a + i) = omega arith in
    let front : 0 + i ≡ i = omega arith in
    ap (has_bit w) (sym front) ∙ sym (at-digits w 0 n i false l)
    ∙ ap (λ x. get_or x i false) same ∙ at-digits (others (not v) r) 0 n i false l
    ∙ ap (has_bit (others (not v) r)) front ∙ valued_digit v r i fits (omega arith)
    ∙ ap (λ x. cond v x (not x)) (has_bit-bits b r (o + a) n i read l ∙ ap (bit_of b) place)

-- the indices after the words that the loop skipped: the true digits of the next word, and the
-- indices after that word
places_of-other : (b : List ℕ) (o : ℕ) (v : Bool) (at end s : ℕ) (w : OtherWord)
    → o + s ≡ 8 * at → IsOther b at end (not v) w
    → places_of b o v s (8 * (end - at)) ≡ ones_of (others (not v) w.word) (8 * (w.behind - 8) - o)
    ++ places_of b o v (8 * w.behind - o) (8 * (end - w.behind))
places_of-other b o v at end s w from found =
    let value : ℕ → Bool = λ i. cond v (bit_of b (o + i)) (not (bit_of b (o + i))) in
    let q : ℕ = 8 * (w.behind - 8) - o in
    let front : o + q ≡ 8 * (w.behind - 8) = omega (arith, found.from) in
    let none = places_of_none b o v s (8 * (w.behind - 8) - 8 * at)
    (λ i lo hi. found.passed (o + i) (omega arith) (omega (arith, found.from))) in
    let fits : others (not v) w.word < 2 ^ 64 = others_fit v w.word found.fits in
    let here = places_of-ones b o v q 64 (others (not v) w.word) (omega arith) fits
    (λ i l.
    let place : 8 * (w.behind - 8) + i ≡ o + (q + i) = omega arith in
    valued_digit v w.word i found.fits l
    ∙ ap (λ x. cond v x (not x)) (found.read i l ∙ ap (bit_of b) place)) in
    places_in-cut value s q (8 * (w.behind - 8) - 8 * at) (8 * (end - at))
    (64 + 8 * (end - w.behind)) (omega (arith, found.from))
    (omega (arith, found.from, found.within))
    ∙ ap (λ l. l ++ places_in value q (64 + 8 * (end - w.behind))) none
    ∙ places_in-cut value q (8 * w.behind - o) 64 (64 + 8 * (end - w.behind))
    (8 * (end - w.behind)) (omega (arith, found.from)) refl
    ∙ ap (λ l. l ++ places_of b o v (8 * w.behind - o) (8 * (end - w.behind))) here

-- no indices, if the loop skipped all words
places_of-passed : (b : List ℕ) (o : ℕ) (v : Bool) (at end s : ℕ) → (at < end → o + s ≡ 8 * at)
    → AreAll b (not v) (8 * at) (8 * end) → places_of b o v s (8 * (end - at)) ≡ []
places_of-passed b o v at end s from passed =
    places_of_none b o v s (8 * (end - at))
    (λ i lo hi. let here = from (omega arith) in passed (o + i) (omega arith) (omega arith))

-- ---- the indices of n words from index p on that are left from byte `at` on
module _ (b : List ℕ) (o : ℕ) (v : Bool) (p n : ℕ) where
  abbrev words_end : ℕ
  words_end = (o + p) / 8 + 8 * n

  -- the index of the first bit of byte `at`
  abbrev place_at : ℕ → ℕ
  place_at at = p + (64 * n - 8 * (words_end - at))

  abbrev pub places_left : ℕ → List ℕ
  places_left at = places_of b o v (place_at at) (8 * (words_end - at))

  -- all indices are left at the start
  pub places_left-all : places_left ((o + p) / 8) ≡ places_of b o v p (64 * n)
  places_left-all =
      let all : 8 * (words_end - (o + p) / 8) ≡ 64 * n = omega arith in
      let here : place_at ((o + p) / 8) ≡ p = omega arith in
      ap (λ a. places_of b o v a (8 * (words_end - (o + p) / 8))) here
      ∙ ap (places_of b o v p) all

  module _ (at : ℕ) (from : (o + p) / 8 ≤ at) (whole : 0 < n → (o + p) % 8 ≡ 0) where
    -- no indices are left if the loop skipped all words
    pub places_left-passed : at ≤ words_end → AreAll b (not v) (8 * at) (8 * words_end)
        → places_left at ≡ []
    places_left-passed within passed =
        places_of-passed b o v at words_end (place_at at)
        (λ some. omega (arith, from, within, whole (omega arith))) passed

    -- the true digits x of the next word that has one, and the indices after that word
    pub places_left-other : (w : OtherWord) (x : ℕ) → x ≡ others (not v) w.word
        → IsOther b at words_end (not v) w
        → places_left at ≡ ones_of x (8 * (w.behind - 8) - o) ++ places_left w.behind
    places_left-other w x is found =
        let some : 0 < n = omega (arith, from, found.from, found.within) in
        let aligned = whole some in
        let here : o + place_at at ≡ 8 * at = omega (arith, from, found.from, found.within) in
        let next : 8 * w.behind - o ≡ place_at w.behind = omega (arith, found.from, found.within) in
        places_of-other b o v at words_end (place_at at) w here found
        ∙ ap (λ a. ones_of (others (not v) w.word) (8 * (w.behind - 8) - o)
        ++ places_of b o v a (8 * (words_end - w.behind))) next
        ∙ ap (λ y. ones_of y (8 * (w.behind - 8) - o) ++ places_left w.behind) (sym is)

-- all bits are true
places_in_all : (t : ℕ → Bool) (a n : ℕ)
    → ((i : ℕ) → a ≤ i → i < a + n → t i ≡ true) → places_in t a n ≡ span a n
unfolding places_in span
places_in_all t a zero h = refl
places_in_all t a (suc n) h =
    ap (λ x. cond x (a ∷ filter t (range_with_len (a + 1) n)) (filter t (range_with_len (a + 1) n)))
    (h a (omega arith) (omega arith))
    ∙ ap (λ l. a ∷ l) (places_in_all t (a + 1) n (λ i lo hi. h i (omega arith) (omega arith)))

pub ones_of-all : (w a : ℕ) → w ≡ 2 ^ 64 - 1 → ones_of w a ≡ span a 64
ones_of-all w a full =
    places_in_all (λ i. has_bit w (i - a)) a 64
    (λ i lo hi. ap (λ x. has_bit x (i - a)) full
    ∙ ap (λ x. eqb x 1) (bit_at_ones 64 (i - a) (omega arith)))

-- a word without true digits
pub ones_of_none : (w a : ℕ) → w ≡ 0 → ones_of w a ≡ []
ones_of_none w a z = places_in_empty (λ i. has_bit w (i - a)) a 64
    (λ i lo hi. ap (λ x. has_bit x (i - a)) z ∙ digits-clear (i - a))

-- the lowest true digit, and the others
pub ones_of_first : (w a : ℕ) → 0 < w → w < 2 ^ 64
    → ones_of w a ≡ (a + trailing_zeros w64 w) ∷ ones_of (bit_and w (w - 1)) a
ones_of_first w a some fits =
    let low : ℕ = trailing_zeros w64 w in
    let z = bit_at-trailing_zeros w64 w some fits in
    let off = lowest_off w low z.1 z.2 in
    let inside : low < 64 = one_below w 64 low fits (ap (λ x. eqb x 1) z.1) in
    let place : a + low - a ≡ low = omega arith in
    places_in_first (λ i. has_bit w (i - a)) (λ i. has_bit (bit_and w (w - 1)) (i - a)) a 64
    (a + low) (omega arith) (omega arith)
    (λ i lo hi. ap (λ x. eqb x 1) (z.2 (i - a) (omega arith)))
    (ap (has_bit w) place ∙ ap (λ x. eqb x 1) z.1)
    (λ i lo hi. ap (λ x. eqb x 1) (off.0 (i - a) (omega arith)))
    (λ i lo hi. ap (λ x. eqb x 1) (off.1 (i - a) (omega arith)))

-- a word without its lowest true digit is smaller
pub ones_fewer : (w : ℕ) → 0 < w → bit_and w (w - 1) < w
ones_fewer w some = omega (arith, and_le_r w (w - 1))

-- two tests that agree select the same number of indices, wherever these begin
same_length-places_in : (t u : ℕ → Bool) (a b n : ℕ)
    → ((i : ℕ) → i < n → t (a + i) ≡ u (b + i))
    → length (places_in t a n) ≡ length (places_in u b n)
same_length-places_in t u a b zero same =
    ap length (places_in_none t a) ∙ sym (ap length (places_in_none u b))
same_length-places_in t u a b (suc n) same =
    let front : a ≡ a + 0 = omega arith in let other : b + 0 ≡ b = omega arith in
    let here : t a ≡ u b = ap t front ∙ same 0 (omega arith) ∙ ap u other in
    let rest = same_length-places_in t u (a + 1) (b + 1) n
    (λ i l. let left : a + 1 + i ≡ a + (i + 1) = omega arith in
    let right : b + (i + 1) ≡ b + 1 + i = omega arith in
    ap t left ∙ same (i + 1) (omega arith) ∙ ap u right) in
    ap length (places_in_cons t a n)
    ∙ ap (λ x. length (cond x (a ∷ places_in t (a + 1) n) (places_in t (a + 1) n))) here
    ∙ both (u b) (places_in t (a + 1) n) (places_in u (b + 1) n) rest
    ∙ sym (ap length (places_in_cons u b n))
  where
    both : (x : Bool) (p q : List ℕ) → length p ≡ length q
        → length (cond x (a ∷ p) p) ≡ length (cond x (b ∷ q) q)
    both true p q e = omega (arith, e)
    both false p q e = e

-- the number of indices is the number of ones of the word
pub length-ones_of : (w a : ℕ) → w < 2 ^ 64 → length (ones_of w a) ≡ count_ones w
length-ones_of w a fits =
    same_length-places_in (λ i. has_bit w (i - a)) (has_bit w) a 0 64
    (λ i l. let place : a + i - a ≡ 0 + i = omega arith in ap (has_bit w) place)
    ∙ ap length (sym (places-digits w 64)) ∙ length-places (digits w 0 64)
    ∙ count-digits_below w 64 fits
