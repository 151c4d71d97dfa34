-- Lists built from a range of numbers.
use Rattle.std.proofs.Common.{◌≡◌, ℕ, zero, suc, ◌+◌, ◌<◌, ◌≤◌, Bool, cond, ◌∷◌, ◌++◌, map, filter}
use Rattle.std.proofs.Common.{sym, refl, ap, ◌∙◌, arith}
use Rattle.std.specs.List.{range_with_len}
use Rattle.std.proofs.lemmas.List.{same_lists, map-append}
use Rattle.std.proofs.lemmas.List.FromFn.{length-map-range_with_len, get_or-map-range_with_len}

-- a range cut in two
pub range_with_len-add : (a m n : ℕ)
    → range_with_len a (m + n) ≡ range_with_len a m ++ range_with_len (a + m) n
range_with_len-add a zero n =
    let e : zero + n ≡ n = omega arith in
    let z : a ≡ a + 0 = omega arith in
    ap (range_with_len a) e ∙ ap (λ x. range_with_len x n) z
range_with_len-add a (suc m) n =
    let e : suc m + n ≡ suc (m + n) = omega arith in let z : a + 1 + m ≡ a + suc m = omega arith in
    ap (range_with_len a) e ∙ ap (λ l. a ∷ l) (range_with_len-add (a + 1) m n
    ∙ ap (λ x. range_with_len (a + 1) m ++ range_with_len x n) z)

-- a function mapped over a range cut in two
pub map-range_with_len-add : (f : ℕ → Bool) (a m n : ℕ) → map f
    (range_with_len a (m + n)) ≡ map f (range_with_len a m) ++ map f (range_with_len (a + m) n)
map-range_with_len-add f a m n = ap (map f) (range_with_len-add a m n)
    ∙ map-append f (range_with_len a m) (range_with_len (a + m) n)

-- two functions that agree on each number give the same list
pub same_map-range_with_len : {A : Type 0} (f g : ℕ → A) (a b n : ℕ) → ((i : ℕ)
    → i < n → f (a + i) ≡ g (b + i)) → map f (range_with_len a n) ≡ map g (range_with_len b n)
same_map-range_with_len f g a b n h =
    same_lists _ _ (length-map-range_with_len f a n ∙ sym (length-map-range_with_len g b n))
    (λ k d l.
    let lt : k < n = omega (arith, length-map-range_with_len f a n) in
    get_or-map-range_with_len f a n k (a + k) d lt refl
    ∙ h k lt ∙ sym (get_or-map-range_with_len g b n k (b + k) d lt refl))

-- two tests that agree on a range select the same numbers
pub same_filter-range_with_len : (p q : ℕ → Bool) (a n : ℕ)
    → ((i : ℕ) → a ≤ i → i < a + n → p i ≡ q i)
    → filter p (range_with_len a n) ≡ filter q (range_with_len a n)
same_filter-range_with_len p q a zero h = refl
same_filter-range_with_len p q a (suc n) h =
    let rest =
    same_filter-range_with_len p q (a + 1) n (λ i lo hi. h i (omega arith) (omega arith)) in
    ap (λ b. cond b (a ∷ filter p (range_with_len (a + 1) n)) (filter p (range_with_len (a + 1) n)))
    (h a (omega arith) (omega arith))
    ∙ ap (λ l. cond (q a) (a ∷ l) l) rest
