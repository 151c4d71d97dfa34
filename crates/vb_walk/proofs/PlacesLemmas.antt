-- The indices at which a test is true.
use Rattle.std.proofs.Common.{◌≡◌, ℕ, zero, suc, ◌+◌, ◌-◌, ◌<◌, ◌≤◌, Bool, true, false, cond, List}
use Rattle.std.proofs.Common.{[], ◌∷◌, filter, refl, sym, ap, ◌∙◌, arith, zero-add}
use Rattle.std.specs.List.{range_with_len}
use Rattle.vb_bits.specs.Bits.{bit_of, bits, places, at}
use Rattle.vb_bits.specs.Digits.{has_bit, digits}
use Rattle.vb_bits.proofs.BitsLemmas.{length-bits, at-bits}
use Rattle.vb_bits.proofs.DigitsLemmas.{length-digits, at-digits}
use Rattle.vb_bits.proofs.RangeLemmas.{same_filter-range_with_len}
use Rattle.vb_walk.specs.Walks.{places_in}

-- no indices
pub places_in_none : (t : ℕ → Bool) (a : ℕ) → places_in t a 0 ≡ []
unfolding places_in
places_in_none t a = refl

-- the first index and the others
pub places_in_cons : (t : ℕ → Bool) (a n : ℕ)
    → places_in t a (suc n) ≡ cond (t a) (a ∷ places_in t (a + 1) n) (places_in t (a + 1) n)
unfolding places_in
places_in_cons t a n = refl

-- two tests that agree
pub same_places_in : (t u : ℕ → Bool) (a n : ℕ)
    → ((i : ℕ) → a ≤ i → i < a + n → t i ≡ u i) → places_in t a n ≡ places_in u a n
unfolding places_in
same_places_in t u a n h = same_filter-range_with_len t u a n h

-- no true value among the first m
pub places_in_skip : (t : ℕ → Bool) (a m n b k : ℕ) → b ≡ a + m
    → n ≡ m + k → ((i : ℕ) → a ≤ i → i < b → t i ≡ false) → places_in t a n ≡ places_in t b k
places_in_skip t a zero n b k eb en h =
    let e : a ≡ b = omega arith in
    let f : n ≡ k = omega arith in
    ap (λ x. places_in t x n) e ∙ ap (places_in t b) f
places_in_skip t a (suc m) n b k eb en h =
    let e : n ≡ suc (m + k) = omega arith in
    let here : t a ≡ false = h a (omega arith) (omega arith) in
    ap (places_in t a) e ∙ places_in_cons t a (m + k)
    ∙ ap (λ x. cond x (a ∷ places_in t (a + 1) (m + k)) (places_in t (a + 1) (m + k))) here
    ∙ places_in_skip t (a + 1) m (m + k) b k (omega arith) refl (λ i l r. h i (omega arith) r)

-- no true value at all
pub places_in_empty : (t : ℕ → Bool) (a n : ℕ)
    → ((i : ℕ) → a ≤ i → i < a + n → t i ≡ false) → places_in t a n ≡ []
places_in_empty t a n h =
    places_in_skip t a n n (a + n) 0 refl (omega arith) h ∙ places_in_none t (a + n)

-- an index at the front
places_in_here : (t : ℕ → Bool) (a n k : ℕ)
    → n ≡ k + 1 → t a ≡ true → places_in t a n ≡ a ∷ places_in t (a + 1) k
places_in_here t a n k e h =
    let f : n ≡ suc k = omega arith in
    ap (places_in t a) f ∙ places_in_cons t a k
    ∙ ap (λ x. cond x (a ∷ places_in t (a + 1) k) (places_in t (a + 1) k)) h

-- b is the first index, u agrees with t after it, and is false up to it
pub places_in_first : (t u : ℕ → Bool) (a n b : ℕ) → a ≤ b → b < a + n
    → ((i : ℕ) → a ≤ i → i < b → t i ≡ false) → t b ≡ true → ((i : ℕ) → a ≤ i → i ≤ b → u i ≡ false)
    → ((i : ℕ) → b < i → i < a + n → u i ≡ t i) → places_in t a n ≡ b ∷ places_in u a n
places_in_first t u a n b la lb none here gone same =
    places_in_skip t a (b - a) n b (a + n - b) (omega arith) (omega arith) none
    ∙ places_in_here t b (a + n - b) (a + n - (b + 1)) (omega arith) here
    ∙ ap (λ x. b ∷ x)
    (sym
    (same_places_in u t (b + 1) (a + n - (b + 1)) (λ i l r. same i (omega arith) (omega arith)))
    ∙ sym (places_in_skip u a (b + 1 - a) n
    (b + 1) (a + n - (b + 1)) (omega arith) (omega arith) (λ i l r. gone i l (omega arith))))

-- the indices of a window
pub places-bits : (t : ℕ → Bool) (b : List ℕ) (o n : ℕ)
    → ((i : ℕ) → i < n → t i ≡ bit_of b (o + i)) → places_in t 0 n ≡ places (bits b o n)
unfolding places places_in
places-bits t b o n h =
    let p : ℕ → Bool = at (bits b o n) in
    same_filter-range_with_len t p 0 n
    (λ i lo hi. h i (omega arith) ∙ sym (at-bits b o n i false (omega arith)))
    ∙ ap (λ k. filter p (range_with_len 0 k)) (sym (length-bits b o n))

-- the indices of the set digits among the first n
pub places-digits : (w n : ℕ) → places (digits w 0 n) ≡ places_in (has_bit w) 0 n
unfolding places places_in
places-digits w n =
    ap (λ k. filter (at (digits w 0 n)) (range_with_len 0 k)) (length-digits w 0 n)
    ∙ same_filter-range_with_len (at (digits w 0 n)) (has_bit w) 0 n
    (λ i lo hi. at-digits w 0 n i false (omega arith) ∙ ap (has_bit w) (zero-add i))
