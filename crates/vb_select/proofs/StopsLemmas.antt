-- Searches that continue from one look to the next, and stop at their result.
use Rattle.std.proofs.Common.{◌≡◌, ◌≢◌, inl, inr, ℕ, ◌+◌, ◌-◌, ◌<◌, ◌≤◌, Bool, true, false, List}
use Rattle.std.proofs.Common.{length, Option, None, Some, IsTrue, refl, sym, ap, ◌∙◌}
use Rattle.std.proofs.Common.{arith, subst}
use Rattle.std.proofs.lemmas.Bool.{cases_lt}
use Rattle.std.proofs.lemmas.List.{get_or_past}
use Rattle.vb_bits.specs.Bits.{bit_of, bits, at, count, Selects}
use Rattle.vb_bits.specs.Nearest.{IsNext, IsPrevious}
use Rattle.vb_count.specs.Hits.{hits}
use Rattle.vb_select.specs.Searches.{rank_of, SelectsNearest}
use Rattle.vb_select.specs.declared.nearest.Nearest.{Nearest}
use Rattle.vb_select.specs.declared.nearest.Nearest.TheVariants.{First, Last}
use Rattle.vb_bits.proofs.BitsLemmas.{length-bits, count-take_more, count-take-lt}
use Rattle.vb_bits.proofs.BitsLemmas.{count-take-le, count-take-mono}
use Rattle.vb_count.proofs.HitsLemmas.{length-hits}
use Rattle.vb_select.proofs.NearestLemmas.{hit, at-hits, at-hits_past, IsNext_later}

-- ---- the values of the first and the last rank
-- a value that can't be true
when_false : (x : Bool) → x ≢ true → x ≡ false
when_false true h = absurd (h refl)
when_false false h = refl

-- the value at an index is false if it can't be true there
off_unless : (l : List Bool) (i : ℕ) → (i < length l → at l i ≢ true) → at l i ≡ false
off_unless l i h = elim (cases_lt i (length l)) [
  | inl within ↦ when_false (at l i) (h within)
  | inr past ↦ get_or_past l i false past
]

-- the first true value
pub Selects-first : (l : List Bool) (r : Option ℕ) → Selects l 0 r → IsNext l 0 r
Selects-first l None s =
    λ i h. off_unless l i (λ w t. omega (arith, s, count-take-lt l i w t))
Selects-first l (Some p) s = (
  omega arith,
  s.0,
  s.1,
  λ i lo hi. off_unless l i (λ w t.
      omega (arith, s.2, count-take_more l i w t, count-take-mono l (i + 1) p (omega arith))),
)

-- the last true value
pub Selects-last : (l : List Bool) (r : Option ℕ)
    → Selects l (count l - 1) r → IsPrevious l (length l) r
Selects-last l None s =
    λ i h. off_unless l i (λ w t. omega (arith, s, count-take-lt l i w t))
Selects-last l (Some p) s = (
  s.0,
  s.0,
  s.1,
  λ i lo hi. off_unless l i (λ w t. omega (
    arith,
    s.2,
    count-take_more l p s.0 s.1,
    count-take_more l i w t,
    count-take-mono l (p + 1) i (omega arith),
    count-take-le (i + 1) l,
  )),
)

-- ---- the bits of a look in their window
-- a bit
in_window : (v : Bool) (b : List ℕ) (o n a k j : ℕ) → j < k → a + k ≤ n
    → at (hits v (bits b o n)) (a + j) ≡ at (hits v (bits b (o + a) k)) j
in_window v b o n a k j l within =
    let e : o + (a + j) ≡ o + a + j = omega arith in
    at-hits v b o n (a + j) (omega arith) ∙ ap (λ x. hit v (bit_of b x)) e
    ∙ sym (at-hits v b (o + a) k j l)

-- the bits that aren't v
pub off_in_window : (v : Bool) (b : List ℕ) (o n a k x y : ℕ) → a + k ≤ n → y ≤ k
    → ((j : ℕ) → x ≤ j → j < y → at (hits v (bits b (o + a) k)) j ≡ false)
    → (i : ℕ) → a + x ≤ i → i < a + y → at (hits v (bits b o n)) i ≡ false
off_in_window v b o n a k x y within few off i lo hi =
    let e : a + (i - a) ≡ i = omega arith in
    subst (λ z. at (hits v (bits b o n)) z ≡ false) e
    (in_window v b o n a k (i - a) (omega arith) within ∙ off (i - a) (omega arith) (omega arith))

-- the number of values is the number of bits in the window
pub long : (v : Bool) (b : List ℕ) (o n : ℕ) → length (hits v (bits b o n)) ≡ n
long v b o n = length-hits v (bits b o n) ∙ length-bits b o n

-- the next one in the window
pub next_in_window : (v : Bool) (b : List ℕ) (o n a k p : ℕ) → a + k ≤ n
    → IsNext (hits v (bits b (o + a) k)) 0 (Some p)
    → IsNext (hits v (bits b o n)) a (Some (a + p))
next_in_window v b o n a k p within found =
    let inside : p < k = omega (arith, found.1, long v b (o + a) k) in (
      omega arith,
      omega (arith, long v b o n),
      in_window v b o n a k p inside within ∙ found.2,
      λ i lo hi. off_in_window v b o n a k 0 p within (omega arith) found.3 i (omega arith) hi,
    )

-- the previous one in the window, if no bit after the look is v
pub previous_in_window : (v : Bool) (b : List ℕ) (o n a k p : ℕ) → a + k ≤ n
    → IsPrevious (hits v (bits b (o + a) k)) (length (hits v (bits b (o + a) k))) (Some p)
    → ((i : ℕ) → a + k ≤ i → i < n → at (hits v (bits b o n)) i ≡ false)
    → IsPrevious (hits v (bits b o n)) n (Some (a + p))
previous_in_window v b o n a k p within found off =
    let inside : p < k = omega (arith, found.1, long v b (o + a) k) in (
      omega arith,
      omega (arith, long v b o n),
      in_window v b o n a k p inside within ∙ found.2,
      λ i lo hi. elim (cases_lt i (a + k)) [
        | inl here ↦ off_in_window v b o n a k (p + 1) k within (omega arith)
            (λ j low high. found.3 j (omega arith) (omega (arith, long v b (o + a) k)))
            i (omega arith) here
        | inr past ↦ off i past hi
      ],
    )

-- ---- from look to look
-- a true value isn't a false one
pub not_off : (l : List Bool) (p : ℕ) → at l p ≡ false → at l p ≢ true
not_off l p off on = let e = sym off ∙ on in cc

-- a hit is in the window
pub hit_within : (v : Bool) (b : List ℕ) (o n p : ℕ) → IsTrue (at (hits v (bits b o n)) p) → p < n
hit_within v b o n p on = elim (cases_lt p n) [
  | inl l ↦ l
  | inr past ↦ absurd (not_off (hits v (bits b o n)) p (at-hits_past v b o n p past) on)
]

-- a hit is at or after the index from which a search to the back continues
pub hit_behind : (l : List Bool) (a m p : ℕ) → ((i : ℕ) → a ≤ i → i < m → at l i ≡ false)
    → a ≤ p → IsTrue (at l p) → m ≤ p
hit_behind l a m p off from on = elim (cases_lt p m) [
  | inl before ↦ absurd (not_off l p (off p from before) on)
  | inr here ↦ here
]

-- a hit is below index m if a search to the front continues below m
pub hit_before : (l : List Bool) (m n p : ℕ) → ((i : ℕ) → m ≤ i → i < n → at l i ≡ false)
    → p < n → IsTrue (at l p) → p < m
hit_before l m n p off to on = elim (cases_lt p m) [
  | inl here ↦ here
  | inr past ↦ absurd (not_off l p (off p past to) on)
]

-- the next one, found by a look at k bits from index m on, in an unchanged source
pub next_found : (v : Bool) (b c : List ℕ) (o n a m k p : ℕ) → c ≡ b → a ≤ m → m + k ≤ n
    → ((i : ℕ) → a ≤ i → i < m → at (hits v (bits b o n)) i ≡ false)
    → Selects (hits v (bits c (o + m) k)) 0 (Some p) → IsNext (hits v (bits b o n)) a (Some (m + p))
next_found v b c o n a m k p same from within off s =
    let here = subst (λ x. Selects (hits v (bits x (o + m) k)) 0 (Some p)) same s in
    IsNext_later (hits v (bits b o n)) a m (Some (m + p)) from off
    (next_in_window v b o n m k p within (Selects-first (hits v (bits b (o + m) k)) (Some p) here))

-- the look finds none
pub next_passed : (v : Bool) (b c : List ℕ) (o n a m k : ℕ) → c ≡ b → m + k ≤ n
    → ((i : ℕ) → a ≤ i → i < m → at (hits v (bits b o n)) i ≡ false)
    → Selects (hits v (bits c (o + m) k)) 0 None
    → (i : ℕ) → a ≤ i → i < m + k → at (hits v (bits b o n)) i ≡ false
next_passed v b c o n a m k same within off s i lo hi = elim (cases_lt i m) [
  | inl before ↦ off i lo before
  | inr here ↦
      let none = subst (λ x. Selects (hits v (bits x (o + m) k)) 0 None) same s in
      off_in_window v b o n m k 0 k within (omega arith)
      (λ j low high. Selects-first (hits v (bits b (o + m) k)) None none j low)
      i (omega arith) hi
]

-- the previous one, found by a look at the k bits from index m on
pub previous_found : (v : Bool) (b c : List ℕ) (o n m k p : ℕ) → c ≡ b → m + k ≤ n
    → ((i : ℕ) → m + k ≤ i → i < n → at (hits v (bits b o n)) i ≡ false)
    → Selects (hits v (bits c (o + m) k)) (count (hits v (bits c (o + m) k)) - 1) (Some p)
    → IsPrevious (hits v (bits b o n)) n (Some (m + p))
previous_found v b c o n m k p same within off s =
    let l = λ (x : List ℕ). hits v (bits x (o + m) k) in
    let here = subst (λ x. Selects (l x) (count (l x) - 1) (Some p)) same s in
    previous_in_window v b o n m k p within (Selects-last (l b) (Some p) here) off

-- the look finds none
pub previous_passed : (v : Bool) (b c : List ℕ) (o n m k : ℕ) → c ≡ b → m + k ≤ n
    → ((i : ℕ) → m + k ≤ i → i < n → at (hits v (bits b o n)) i ≡ false)
    → Selects (hits v (bits c (o + m) k)) (count (hits v (bits c (o + m) k)) - 1) None
    → (i : ℕ) → m ≤ i → i < n → at (hits v (bits b o n)) i ≡ false
previous_passed v b c o n m k same within off s i lo hi = elim (cases_lt i (m + k)) [
  | inl here ↦
      let l = λ (x : List ℕ). hits v (bits x (o + m) k) in
      let none = subst (λ x. Selects (l x) (count (l x) - 1) None) same s in
      off_in_window v b o n m k 0 k within (omega arith)
      (λ j low high. Selects-last (l b) None none j (omega (arith, long v b (o + m) k)))
      i (omega arith) here
  | inr past ↦ off i past hi
]

-- a hit in a window, below m, is a hit in its front of m bits
pub hit_in_front : (v : Bool) (b : List ℕ) (o n m p : ℕ) → m ≤ n → p < m
    → IsTrue (at (hits v (bits b o n)) p) → IsTrue (at (hits v (bits b o m)) p)
hit_in_front v b o n m p within l on =
    at-hits v b o m p l ∙ sym (at-hits v b o n p (omega arith)) ∙ on

-- the rank of the nearest of some values is below their number
pub rank_below : (which : Nearest) (n : ℕ) → 0 < n → rank_of which n < n
rank_below First n some = some
rank_below Last n some = omega arith

-- the nearest of no values
pub nearest_none : (which : Nearest) (l : List Bool) → count l ≡ 0 → SelectsNearest which l None
nearest_none which l none = omega arith

-- the nearest value, selected from an equal list
pub nearest_some : (which : Nearest) (k l : List Bool) (n r p : ℕ) → k ≡ l → n ≡ count k
    → r ≡ rank_of which n → Selects k r (Some p) → SelectsNearest which l (Some p)
nearest_some which k l n r p same size rank s =
    subst (λ x. SelectsNearest which x (Some p)) same
    (subst (λ m. Selects k m (Some p)) (rank ∙ ap (rank_of which) size) s)
