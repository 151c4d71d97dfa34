-- Searches side by side: properties of each, when one of them makes a step.
use Rattle.std.proofs.Common.{◌≡◌, ℕ, ◌+◌, ◌-◌, ◌/◌, ◌<◌, ◌≤◌, List, [], ◌∷◌, length, get_or, set}
use Rattle.std.proofs.Common.{arith, ap, ◌∙◌, ⊎_elim}
use Rattle.std.proofs.lemmas.Bool.{cases_eq, cases_lt}
use Rattle.std.proofs.lemmas.List.{get_or-set_same, get_or-set_other}

-- a list that is not empty has an element
pub some_of : {X : Type 0} (xs : List X) → 0 < length xs → X
some_of [] h = absurd (omega (arith, h))
some_of (x ∷ xs) h = x

-- a property of each of the eight numbers of three lists is kept if those at one index are written
pub each_set : (P : ℕ → ℕ → ℕ → ℕ → Type 0) (a b e : List ℕ) (k x y z : ℕ)
    → length a ≡ 8 → length b ≡ 8 → length e ≡ 8 → k < 8
    → ((i : ℕ) → i < 8 → P i (get_or a i 0) (get_or b i 0) (get_or e i 0))
    → P k x y z
    → (i : ℕ) → i < 8
    → P i (get_or (set a k x) i 0) (get_or (set b k y) i 0) (get_or (set e k z) i 0)
each_set P a b e k x y z la lb le within all here i h =
    ⊎_elim
    (λ (same : i ≡ k).
    let xk : get_or (set a k x) k 0 ≡ x = get_or-set_same a k x 0 (omega (arith, la, within)) in
    let yk : get_or (set b k y) k 0 ≡ y = get_or-set_same b k y 0 (omega (arith, lb, within)) in
    let zk : get_or (set e k z) k 0 ≡ z = get_or-set_same e k z 0 (omega (arith, le, within)) in
    rw same (rw xk (rw yk (rw zk here))))
    (λ (other : i ≡ k → ⊥).
    rw (get_or-set_other a k i x 0 other) (rw (get_or-set_other b k i y 0 other)
    (rw (get_or-set_other e k i z 0 other) (all i h))))
    (cases_eq i k)

-- the numbers up to index k are halved
pub halved_set : (e o : List ℕ) (k : ℕ)
    → length e ≡ 8 → k < 8
    → ((i : ℕ) → i < k → get_or e i 0 ≡ get_or o i 0 - get_or o i 0 / 2)
    → ((i : ℕ) → k ≤ i → get_or e i 0 ≡ get_or o i 0)
    → (i : ℕ) → i < k + 1 → get_or (set e k (get_or e k 0 - get_or e k 0 / 2)) i 0
    ≡ get_or o i 0 - get_or o i 0 / 2
halved_set e o k le within done left i h =
    let z : ℕ = get_or e k 0 - get_or e k 0 / 2 in
    ⊎_elim
    (λ (less : i < k). get_or-set_other e k i z 0 (λ s. omega (arith, s, less)) ∙ done i less)
    (λ (more : k ≤ i).
    let same : i ≡ k = omega (arith, more, h) in
    rw same (get_or-set_same e k z 0 (omega (arith, le, within))
    ∙ ap (λ x. x - x / 2) (left k (omega arith))))
    (cases_lt i k)

-- and the numbers after it are unchanged
pub kept_set : (e o : List ℕ) (k z : ℕ)
    → ((i : ℕ) → k ≤ i → get_or e i 0 ≡ get_or o i 0)
    → (i : ℕ) → k + 1 ≤ i → get_or (set e k z) i 0 ≡ get_or o i 0
kept_set e o k z left i h =
    get_or-set_other e k i z 0 (λ s. omega (arith, s, h)) ∙ left i (omega (arith, h))

-- halving leaves a number of at most 1 unchanged
pub halved_still : (e o : List ℕ) (k : ℕ) → get_or e k 0 / 2 ≡ 0
    → ((i : ℕ) → i < k → get_or e i 0 ≡ get_or o i 0 - get_or o i 0 / 2)
    → ((i : ℕ) → k ≤ i → get_or e i 0 ≡ get_or o i 0)
    → (i : ℕ) → i < k + 1 → get_or e i 0 ≡ get_or o i 0 - get_or o i 0 / 2
halved_still e o k none done left i h =
    ⊎_elim
    (λ (less : i < k). done i less)
    (λ (more : k ≤ i).
    let same : i ≡ k = omega (arith, more, h) in
    rw same (omega (arith, left k (omega arith), none, ap (λ x. x / 2) (left k (omega arith)))))
    (cases_lt i k)
