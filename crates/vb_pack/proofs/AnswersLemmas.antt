-- Calls of a closure, one after another.
use Rattle.std.proofs.Common.{◌≡◌, ℕ, zero, suc, ◌+◌, ◌<◌, Bool, false, List, [], ◌∷◌, ◌++◌, length}
use Rattle.std.proofs.Common.{get_or, map, refl, sym, ap, ◌∙◌, subst, arith, zero-add}
use Rattle.std.proofs.lemmas.List.{same_lists, get_or_default}
use Rattle.std.proofs.lemmas.List.FromFn.{length-map-range_with_len, get_or-map-range_with_len}
use Rattle.std.specs.List.{FoldsTo}
use Rattle.vb_bits.proofs.RangeLemmas.{range_with_len-add}
use Rattle.vb_pack.specs.Asked.{Answers, CanAsk, span}

-- a span cut in two
pub span-add : (a m n : ℕ) → span a (m + n) ≡ span a m ++ span (a + m) n
unfolding span
span-add a m n = range_with_len-add a m n

pub span-cut : (a b m n k : ℕ) → b ≡ a + m → n ≡ m + k → span a n ≡ span a m ++ span b k
span-cut a b m n k from whole =
    ap (span a) whole ∙ span-add a m k ∙ ap (λ x. span a m ++ span x k) (sym from)

-- ---- closures with any results
module _ {F A R : Type 0} (step : F → A → R → F → Type 0) (pre : F → A → Type 0) where
  -- a closure that can always be called
  pub CanAsk_always : ((p : F) (x : A) → pre p x) → (p : F) (xs : List A) → CanAsk pre step p xs
  CanAsk_always may p [] = tt
  CanAsk_always may p (x ∷ xs) = (may p x, λ b q said. CanAsk_always may q xs)

  -- the first calls
  pub CanAsk-front : (p : F) (xs ys : List A) → CanAsk pre step p (xs ++ ys) → CanAsk pre step p xs
  CanAsk-front p [] ys may = tt
  CanAsk-front p (x ∷ xs) ys may = (may.0, λ b q said. CanAsk-front q xs ys (may.1 b q said))

-- ---- closures that return nothing
module _ {F A : Type 0} (step : F → A → Unit {0} → F → Type 0) (pre : F → A → Type 0) where
  -- the calls after the first ones
  pub CanAsk-past : (p : F) (xs ys : List A) (q : F) → CanAsk pre step p (xs ++ ys)
      → FoldsTo (λ p x q. step p x tt q) p xs q → CanAsk pre step q ys
  CanAsk-past p [] ys q may called = subst (λ s. CanAsk pre step s ys) called may
  CanAsk-past p (x ∷ xs) ys q may called =
      CanAsk-past called.0 xs ys q (may.1 tt called.0 called.1) called.2

-- calls with the items of a list, and then with those of another one
pub FoldsTo-append : {F A : Type 0} (step : F → A → F → Type 0) (p : F) (xs ys : List A) (q r : F)
    → FoldsTo step p xs q → FoldsTo step q ys r → FoldsTo step p (xs ++ ys) r
FoldsTo-append step p [] ys q r first second = subst (λ s. FoldsTo step s ys r) (sym first) second
FoldsTo-append step p (x ∷ xs) ys q r first second =
    (first.0, first.1, FoldsTo-append step first.0 xs ys q r first.2 second)

-- ---- closures that return truth values
module _ {F A : Type 0} (step : F → A → Bool → F → Type 0) where
  Answers-append : (p : F)
      (xs : List A) (bs : List Bool) (q : F) (ys : List A) (cs : List Bool) (r : F)
      → Answers step p xs bs q → Answers step q ys cs r → Answers step p (xs ++ ys) (bs ++ cs) r
  Answers-append p [] [] q ys cs r first second =
      subst (λ s. Answers step s ys cs r) (sym first) second
  Answers-append p [] (b ∷ bs) q ys cs r first second = absurd first
  Answers-append p (x ∷ xs) [] q ys cs r first second = absurd first
  Answers-append p (x ∷ xs) (b ∷ bs) q ys cs r first second =
      (first.0, first.1, Answers-append first.0 xs bs q ys cs r first.2 second)

  -- if each call keeps a part of the state, all calls keep it
  pub Answers-keeps : {N : Type 0} (part : F → N)
      → ((p : F) (x : A) (b : Bool) (q : F) → step p x b q → part q ≡ part p)
      → (p : F) (xs : List A) (bs : List Bool) (q : F) → Answers step p xs bs q → part q ≡ part p
  Answers-keeps part keeps p [] [] q asked = ap part (sym asked)
  Answers-keeps part keeps p [] (b ∷ bs) q asked = absurd asked
  Answers-keeps part keeps p (x ∷ xs) [] q asked = absurd asked
  Answers-keeps part keeps p (x ∷ xs) (b ∷ bs) q asked =
      Answers-keeps part keeps asked.0 xs bs q asked.2 ∙ keeps p x b asked.0 asked.1

  -- a closure whose result is a function of its argument
  pub Answers-map : (t : A → Bool) → ((p : F) (x : A) (b : Bool) (q : F) → step p x b q → b ≡ t x)
      → (p : F) (xs : List A) (bs : List Bool) (q : F) → Answers step p xs bs q → bs ≡ map t xs
  Answers-map t tells p [] [] q asked = refl
  Answers-map t tells p [] (b ∷ bs) q asked = absurd asked
  Answers-map t tells p (x ∷ xs) [] q asked = absurd asked
  Answers-map t tells p (x ∷ xs) (b ∷ bs) q asked =
      let first : b ≡ t x = tells p x b asked.0 asked.1 in
      let rest : bs ≡ map t xs = Answers-map t tells asked.0 xs bs q asked.2 in
      ap (λ y. y ∷ bs) first ∙ ap (λ l. t x ∷ l) rest

  module _ (pre : F → A → Type 0) where
    CanAsk-behind : (p : F) (xs ys : List A) (bs : List Bool) (q : F)
        → CanAsk pre step p (xs ++ ys) → Answers step p xs bs q → CanAsk pre step q ys
    CanAsk-behind p [] ys [] q may asked = subst (λ s. CanAsk pre step s ys) asked may
    CanAsk-behind p [] ys (b ∷ bs) q may asked = absurd asked
    CanAsk-behind p (x ∷ xs) ys [] q may asked = absurd asked
    CanAsk-behind p (x ∷ xs) ys (b ∷ bs) q may asked =
        CanAsk-behind asked.0 xs ys bs q (may.1 b asked.0 asked.1) asked.2

module _ {F : Type 0} (step : F → ℕ → Bool → F → Type 0) where
  -- no call yet
  pub Answers_none : (a : ℕ) (p : F) → Answers step p (span a 0) [] p
  unfolding span
  Answers_none a p = refl

  -- one more call
  pub Answers-push : (a n m : ℕ) (p : F) (bs : List Bool) (q : F) (b : Bool) (r : F)
      → m ≡ n + 1 → Answers step p (span a n) bs q
      → step q (a + n) b r → Answers step p (span a m) (bs ++ b ∷ []) r
  unfolding span
  Answers-push a n m p bs q b r e asked said =
      subst (λ xs. Answers step p xs (bs ++ b ∷ []) r) (sym (span-add a n 1) ∙ ap (span a) (sym e))
      (Answers-append step p (span a n) bs q ((a + n) ∷ []) (b ∷ []) r asked (r, said, refl))

  -- one more span
  pub Answers-add : (a o m n k : ℕ) (p : F) (bs : List Bool) (q : F) (cs : List Bool) (r : F)
      → o ≡ a + m → k ≡ m + n → Answers step p (span a m) bs q
      → Answers step q (span o n) cs r → Answers step p (span a k) (bs ++ cs) r
  Answers-add a o m n k p bs q cs r from whole first second =
      subst (λ xs. Answers step p xs (bs ++ cs) r)
      (ap (λ x. span a m ++ span x n) from ∙ sym (span-add a m n) ∙ ap (span a) (sym whole))
      (Answers-append step p (span a m) bs q (span o n) cs r first second)

  -- a closure whose state has an invariant, I k before call k, and which returns t k there
  pub Answers-from : (I : ℕ → F → Type 0) (t : ℕ → Bool) (a n : ℕ)
      → ((k : ℕ) (p : F) (b : Bool) (q : F) → k < a + n → I k p
      → step p k b q → (b ≡ t k) × I (k + 1) q) → (p : F) (bs : List Bool) (q : F)
      → I a p → Answers step p (span a n) bs q → (bs ≡ map t (span a n)) × I (a + n) q
  unfolding span
  Answers-from I t a zero turn p [] q i asked =
      let end : a ≡ a + 0 = omega arith in
      (refl, subst (λ k. I k q) end (subst (I a) asked i))
  Answers-from I t a zero turn p (b ∷ bs) q i asked = absurd asked
  Answers-from I t a (suc n) turn p [] q i asked = absurd asked
  Answers-from I t a (suc n) turn p (b ∷ bs) q i asked =
      let first : (b ≡ t a) × I (a + 1) asked.0 = turn a p b asked.0 (omega arith) i asked.1 in
      let rest : (bs ≡ map t (span (a + 1) n)) × I (a + 1 + n) q = Answers-from I t
      (a + 1) n (λ k p b q l. turn k p b q (omega arith)) asked.0 bs q first.1 asked.2 in
      let end : a + 1 + n ≡ a + suc n = omega arith in
      (ap (λ x. x ∷ bs) first.0 ∙ ap (λ l. t a ∷ l) rest.0, subst (λ k. I k q) end rest.1)

  module _ (pre : F → ℕ → Type 0) where
    -- the next call
    pub CanAsk_next : (a n : ℕ) (p : F) → 0 < n → CanAsk pre step p (span a n) → pre p a
    unfolding span
    CanAsk_next a zero p some may = absurd (omega arith)
    CanAsk_next a (suc n) p some may = may.0

    -- the calls after it
    pub CanAsk_after : (a o n m : ℕ) (p : F) (b : Bool) (q : F) → o ≡ a + 1
        → n ≡ m + 1 → CanAsk pre step p (span a n) → step p a b q → CanAsk pre step q (span o m)
    unfolding span
    CanAsk_after a o zero m p b q from e may said = absurd (omega arith)
    CanAsk_after a o (suc n) m p b q from e may said =
        let same : n ≡ m = omega arith in
        subst (λ k. CanAsk pre step q (span k m))
        (sym from) (subst (λ k. CanAsk pre step q (span (a + 1) k)) same (may.1 b q said))

    -- the first calls of a span
    pub CanAsk-first : (a m n k : ℕ) (p : F)
        → n ≡ m + k → CanAsk pre step p (span a n) → CanAsk pre step p (span a m)
    CanAsk-first a m n k p e may =
        CanAsk-front step pre p (span a m)
        (span (a + m) k) (subst (CanAsk pre step p) (ap (span a) e ∙ span-add a m k) may)

    -- the calls after the first ones
    pub CanAsk-rest : (a o m n k : ℕ) (p : F) (bs : List Bool) (q : F)
        → n ≡ m + k → o ≡ a + m → CanAsk pre step p (span a n) → Answers step p (span a m) bs q
        → CanAsk pre step q (span o k)
    CanAsk-rest a o m n k p bs q e from may asked =
        subst (λ x. CanAsk pre step q (span x k)) (sym from)
        (CanAsk-behind step pre p (span a m) (span (a + m) k) bs q
        (subst (CanAsk pre step p) (ap (span a) e ∙ span-add a m k) may) asked)

    -- a closure whose state has an invariant, I k before call k, which permits the call
    pub CanAsk-from : (I : ℕ → F → Type 0) (a n : ℕ)
        → ((k : ℕ) (p : F) → k < a + n → I k p → pre p k)
        → ((k : ℕ) (p : F) (b : Bool) (q : F) → k < a + n → I k p → step p k b q → I (k + 1) q)
        → (p : F) → I a p → CanAsk pre step p (span a n)
    unfolding span
    CanAsk-from I a zero may keeps p i = tt
    CanAsk-from I a (suc n) may keeps p i = (
      may a p (omega arith) i,
      λ b q said. CanAsk-from I (a + 1) n (λ k p l. may k p (omega arith))
          (λ k p b q l. keeps k p b q (omega arith)) q (keeps a p b q (omega arith) i said),
    )

-- a closure that returns the values of a list, index by index, returns the list
pub map-span : (t : ℕ → Bool) (l : List Bool) (n : ℕ)
    → n ≡ length l → ((k : ℕ) → k < n → t k ≡ get_or l k false) → map t (span 0 n) ≡ l
unfolding span
map-span t l n e same =
    same_lists _ _ (length-map-range_with_len t 0 n ∙ e)
    (λ k d h.
    let inside : k < n = omega (arith, length-map-range_with_len t 0 n) in
    get_or-map-range_with_len t 0 n k k d inside (zero-add k)
    ∙ same k inside ∙ get_or_default l k false d (omega arith))

-- ---- two closures that agree on a span
module _ {F : Type 0} (s t : F → ℕ → Bool → F → Type 0) where
  pub Answers-alike : (a n : ℕ)
      → ((k : ℕ) (p : F) (b : Bool) (q : F) → k < a + n → s p k b q → t p k b q)
      → (p : F) (bs : List Bool) (q : F) → Answers s p (span a n) bs q → Answers t p (span a n) bs q
  unfolding span
  Answers-alike a zero alike p [] q asked = asked
  Answers-alike a zero alike p (b ∷ bs) q asked = absurd asked
  Answers-alike a (suc n) alike p [] q asked = absurd asked
  Answers-alike a (suc n) alike p (b ∷ bs) q asked = (
    asked.0,
    alike a p b asked.0 (omega arith) asked.1,
    Answers-alike (a + 1) n (λ k p b q l. alike k p b q (omega arith)) asked.0 bs q asked.2,
  )

module _ {F : Type 0} (s t : F → ℕ → F → Type 0) where
  pub FoldsTo-alike : (a n : ℕ) → ((k : ℕ) (p q : F) → k < a + n → s p k q → t p k q) → (p q : F)
      → FoldsTo s p (span a n) q → FoldsTo t p (span a n) q
  unfolding span
  FoldsTo-alike a zero alike p q called = called
  FoldsTo-alike a (suc n) alike p q called = (
    called.0,
    alike a p called.0 (omega arith) called.1,
    FoldsTo-alike (a + 1) n (λ k p q l. alike k p q (omega arith)) called.0 q called.2,
  )

module _ {F R : Type 0} (s t : F → ℕ → R → F → Type 0) where
  pub CanAsk-alike : (pre other : F → ℕ → Type 0) (a n : ℕ)
      → ((k : ℕ) (p : F) → k < a + n → pre p k → other p k)
      → ((k : ℕ) (p : F) (b : R) (q : F) → k < a + n → t p k b q → s p k b q)
      → (p : F) → CanAsk pre s p (span a n) → CanAsk other t p (span a n)
  unfolding span
  CanAsk-alike pre other a zero may alike p can = tt
  CanAsk-alike pre other a (suc n) may alike p can = (
    may a p (omega arith) can.0,
    λ b q said. CanAsk-alike pre other
        (a + 1) n (λ k p l. may k p (omega arith)) (λ k p b q l. alike k p b q (omega arith)) q
        (can.1 b q (alike a p b q (omega arith) said)),
  )
