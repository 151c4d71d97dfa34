-- Windows of bits, counts of them, and the index that a rank selects.
use Rattle.std.proofs.Common.{◌≡◌, ℕ, ◌+◌, ◌<◌, ◌≤◌, Bool, true, false, not, cond, List, [], ◌∷◌}
use Rattle.std.proofs.Common.{◌++◌, length, get_or, take, drop, Option, Some, None, refl, sym, ap}
use Rattle.std.proofs.Common.{◌∙◌, arith, ⊎_elim}
use Rattle.std.proofs.lemmas.List.{length-map, same_lists, take-take, take-map, get_or-map, drop_at}
use Rattle.std.proofs.lemmas.List.FromFn.{length-map-range_with_len, get_or-map-range_with_len}
use Rattle.std.proofs.lemmas.List.FromFn.{take-map-range_with_len, map-range_with_len_more}
use Rattle.std.proofs.lemmas.List.Sums.{sum_by-append, sum_by_push, sum_by-cons, sum_by-take-le}
use Rattle.std.proofs.lemmas.List.Sums.{count_by-le-length, count_by_more_yes}
use Rattle.std.proofs.lemmas.Bool.{cases_order, cond_both, cond-true, cond-false}
use Rattle.vb_bits.specs.Bits.{bit_of, bits, at, count, complement, Selects, InvertsCount}
use Rattle.vb_bits.proofs.RangeLemmas.{map-range_with_len-add, same_map-range_with_len}

-- ---- windows
-- a window of n bits has n bits
pub length-bits : (b : List ℕ) (o n : ℕ) → length (bits b o n) ≡ n
unfolding bits
length-bits b o n = length-map-range_with_len (bit_of b) o n

-- a bit of a window is a bit of its bytes
pub at-bits : (b : List ℕ) (o n i : ℕ) (d : Bool)
    → i < n → get_or (bits b o n) i d ≡ bit_of b (o + i)
unfolding bits
at-bits b o n i d h = get_or-map-range_with_len (bit_of b) o n i (o + i) d h refl

-- the front of a window
pub take-bits : (b : List ℕ) (o n k : ℕ) → k ≤ n → take k (bits b o n) ≡ bits b o k
unfolding bits
take-bits b o n k h = take-map-range_with_len (bit_of b) o n k h

-- a window of no bits
pub bits_none : (b : List ℕ) (o : ℕ) → bits b o 0 ≡ []
unfolding bits
bits_none b o = refl

-- a window and its last bit
pub bits_more : (b : List ℕ) (o n : ℕ) → bits b o (n + 1) ≡ bits b o n ++ bit_of b (o + n) ∷ []
unfolding bits
bits_more b o n = map-range_with_len_more (bit_of b) o n (o + n) refl

-- a window cut in two
pub bits-add : (b : List ℕ) (o m n : ℕ) → bits b o (m + n) ≡ bits b o m ++ bits b (o + m) n
unfolding bits
bits-add b o m n = map-range_with_len-add (bit_of b) o m n

-- the end of a window
pub drop-bits : (b : List ℕ) (o m n : ℕ) → drop m (bits b o (m + n)) ≡ bits b (o + m) n
drop-bits b o m n =
    ap (drop m) (bits-add b o m n) ∙ drop_at (bits b o m) (bits b (o + m) n) m (length-bits b o m)

-- two windows with the same bits are the same list, at any offsets
pub same_bits : (b c : List ℕ) (o p n : ℕ)
    → ((i : ℕ) → i < n → bit_of b (o + i) ≡ bit_of c (p + i)) → bits b o n ≡ bits c p n
unfolding bits
same_bits b c o p n h = same_map-range_with_len (bit_of b) (bit_of c) o p n h

-- ---- counts of lists
-- the count of a list and its first value
pub count-cons : (b : Bool) (l : List Bool) → count (b ∷ l) ≡ cond b 1 0 + count l
count-cons b l = sum_by-cons (λ b. cond b 1 0) b l

-- the count of two lists, one after the other
pub count-append : (k l : List Bool) → count (k ++ l) ≡ count k + count l
count-append k l = sum_by-append (λ b. cond b 1 0) k l

-- no list counts more than its length
pub count-le : (l : List Bool) → count l ≤ length l
count-le l = count_by-le-length (λ b. b) l

-- the front of a list counts no more than the list
pub count-take-le : (i : ℕ) (l : List Bool) → count (take i l) ≤ count l
count-take-le i l = sum_by-take-le (λ b. cond b 1 0) l i

-- a longer front counts no less
pub count-take-mono : (l : List Bool) (i j : ℕ) → i ≤ j → count (take i l) ≤ count (take j l)
count-take-mono l i j h = rw (← take-take i j l h) (count-take-le i (take j l))

-- a front and the true value after it
pub count-take_more : (l : List Bool) (i : ℕ)
    → i < length l → at l i ≡ true → count (take (i + 1) l) ≡ count (take i l) + 1
count-take_more l i h t = count_by_more_yes (λ b. b) l i false h t

-- the rank of a true value is below the count
pub count-take-lt : (l : List Bool) (i : ℕ)
    → i < length l → at l i ≡ true → count (take i l) < count l
count-take-lt l i h t = omega (arith, count-take_more l i h t, count-take-le (i + 1) l)

-- ---- values negated
-- a value negated
pub at-complement : (l : List Bool) (i : ℕ) → i < length l → at (complement l) i ≡ not (at l i)
at-complement l i h = get_or-map not l i false false h

-- the front of a list negated
pub take-complement : (l : List Bool) (i : ℕ) → take i (complement l) ≡ complement (take i l)
take-complement l i = take-map not i l

-- the counts of the false and of the true values add up to the length
pub count-complement : (l : List Bool) → count (complement l) + count l ≡ length l
count-complement [] = refl
count-complement (true ∷ l) =
    rw (count-cons true l, count-cons false (complement l)) (omega (arith, count-complement l))
count-complement (false ∷ l) =
    rw (count-cons false l, count-cons true (complement l)) (omega (arith, count-complement l))

-- ---- counts of windows
-- the count of a window of no bits
pub count-bits_none : (b : List ℕ) (o : ℕ) → count (bits b o 0) ≡ 0
count-bits_none b o = ap count (bits_none b o)

-- the count of a window that is longer by one bit
pub count-bits_more : (b : List ℕ) (o n : ℕ)
    → count (bits b o (n + 1)) ≡ count (bits b o n) + cond (bit_of b (o + n)) 1 0
count-bits_more b o n =
    ap count (bits_more b o n) ∙ sum_by_push (λ b. cond b 1 0) (bits b o n) (bit_of b (o + n))

-- the count of a window cut in two
pub count-bits-add : (b : List ℕ) (o m n : ℕ)
    → count (bits b o (m + n)) ≡ count (bits b o m) + count (bits b (o + m) n)
count-bits-add b o m n = ap count (bits-add b o m n) ∙ count-append (bits b o m) (bits b (o + m) n)

-- no window counts more than its length
pub count-bits-le : (b : List ℕ) (o n : ℕ) → count (bits b o n) ≤ n
count-bits-le b o n = omega (arith, count-le (bits b o n), length-bits b o n)

-- the false bits of a window of no bits
pub count-complement_none : (b : List ℕ) (o : ℕ) → count (complement (bits b o 0)) ≡ 0
count-complement_none b o = ap (λ l. count (complement l)) (bits_none b o)

-- the false bits of a window that is longer by one bit
pub count-complement_more : (b : List ℕ) (o n : ℕ) → count (complement (bits b o (n + 1)))
    ≡ count (complement (bits b o n)) + cond (bit_of b (o + n)) 0 1
count-complement_more b o n =
    let longer = count-complement (bits b o (n + 1)) in
    let shorter = count-complement (bits b o n) in
    let more = count-bits_more b o n in
    let m = length-bits b o (n + 1) in let k = length-bits b o n in
    cond_both (bit_of b (o + n)) 0 1
    (λ x. count (complement (bits b o (n + 1))) ≡ count (complement (bits b o n)) + x)
    (λ t. let one : cond (bit_of b (o + n)) 1 0 ≡ 1 =
    cond-true {A = ℕ} (bit_of b (o + n)) 1 0 t in omega arith)
    (λ t. let none : cond (bit_of b (o + n)) 1 0 ≡ 0 =
    cond-false {A = ℕ} (bit_of b (o + n)) 1 0 t in omega arith)

-- ---- the index that a rank selects
-- two true values of the same rank have the same index
pub same_place : (l : List Bool) (i j : ℕ) → i < length l
    → at l i ≡ true → j < length l → at l j ≡ true → count (take i l) ≡ count (take j l) → i ≡ j
same_place l i j hi ti hj tj e =
    ⊎_elim (λ same. same) (λ other. absurd (⊎_elim
    (λ less. omega (arith, count-take_more l i hi ti, count-take-mono l (i + 1) j (omega arith)))
    (λ more. omega (arith, count-take_more l j hj tj, count-take-mono l (j + 1) i (omega arith)))
    other)) (cases_order i j)

-- if r selects rank n, it is the index of each true value of that rank
pub Selects-InvertsCount : (l : List Bool) (n : ℕ) (r : Option ℕ)
    → Selects l n r → InvertsCount l n r
Selects-InvertsCount l n None s i h t e = absurd (omega (arith, count-take-lt l i h t))
Selects-InvertsCount l n (Some p) s i h t e = ap Some (same_place l p i s.0 s.1 h t (s.2 ∙ sym e))

-- ---- for `#[tactic(auto, using(..))]`
-- loops over the bits of a window
pub ruleset windows = (
  count-bits_none,
  count-bits_more,
  count-bits-le,
  length-bits,
  at-bits,
  take-bits,
  count-complement_more,
  count-complement_none,
  at-complement,
  take-complement,
  length-map,
)
