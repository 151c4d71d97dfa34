-- Runs of true values.
use Rattle.std.proofs.Common.{◌≡◌, ◌⊎◌, inl, inr, ℕ, zero, suc, ◌+◌, ◌-◌, ◌<◌, ◌≤◌, Bool, true}
use Rattle.std.proofs.Common.{false, not, ◌&&◌, List, [], ◌∷◌, length, map, filter, refl, sym, ap}
use Rattle.std.proofs.Common.{◌∙◌, subst, arith}
use Rattle.std.specs.List.{All, range_with_len, zip}
use Rattle.std.proofs.lemmas.Bool.{cases_lt, cases_eq}
use Rattle.std.proofs.lemmas.List.{get_or_past}
use Rattle.std.proofs.lemmas.List.Elements.{All-cons, All-nil}
use Rattle.vb_bits.specs.Bits.{at}
use Rattle.vb_bits.specs.Runs.{value_before, runs, shift_run}

-- P lists the runs of t among the indices `a..e`: no value before the first run is true, all values
-- in it are, and the index after it is e or its value is false
abbrev pub AreRuns : (ℕ → Bool) → ℕ → ℕ → List (ℕ × ℕ) → Type 0
AreRuns t a e [] = (i : ℕ) → a ≤ i → i < e → t i ≡ false
AreRuns t a e (p ∷ ps) =
    (a ≤ p.0) × (p.0 < p.1) × (p.1 ≤ e)
    × ((i : ℕ) → a ≤ i → i < p.0 → t i ≡ false)
    × ((i : ℕ) → p.0 ≤ i → i < p.1 → t i ≡ true)
    × ((p.1 ≡ e) ⊎ (t p.1 ≡ false))
    × AreRuns t p.1 e ps

-- indices in front with false values
pub AreRuns-front : (t : ℕ → Bool) (a b e : ℕ) (P : List (ℕ × ℕ))
    → a ≤ b → ((i : ℕ) → a ≤ i → i < b → t i ≡ false) → AreRuns t b e P → AreRuns t a e P
AreRuns-front t a b e [] le off h =
    λ i l r. elim (cases_lt i b) [ inl low ↦ off i l low | inr high ↦ h i high r ]
AreRuns-front t a b e (p ∷ ps) le off h = (
  omega (arith, h.0),
  h.1,
  h.2,
  λ i l r.
      elim (cases_lt i b) [ inl low ↦ off i l low | inr high ↦ h.3 i high r ],
  h.4,
  h.5,
  h.6,
)

true_or_false : (b : Bool) → (b ≡ true) ⊎ (b ≡ false)
true_or_false true = inl refl
true_or_false false = inr refl

-- ---- rises and falls are the ends of runs
module _ (t u : ℕ → Bool) (e : ℕ) (next : (i : ℕ) → u (i + 1) ≡ t i) (end : t e ≡ false) where
  rise : ℕ → ℕ → List ℕ
  rise a n = filter (λ i. t i && not (u i)) (range_with_len a n)

  fall : ℕ → ℕ → List ℕ
  fall a n = filter (λ i. u i && not (t i)) (range_with_len a n)

  -- the first index, by its value and the one before it
  rise_true : (a n : ℕ) → t a ≡ true → u a ≡ false → rise a (suc n) ≡ a ∷ rise (a + 1) n
  unfolding rise
  rise_true a n x y = rw (x, y) refl

  rise_none : (a n : ℕ) → t a ≡ false → rise a (suc n) ≡ rise (a + 1) n
  unfolding rise
  rise_none a n x = rw x refl

  rise_going : (a n : ℕ) → t a ≡ true → u a ≡ true → rise a (suc n) ≡ rise (a + 1) n
  unfolding rise
  rise_going a n x y = rw (x, y) refl

  fall_true : (a n : ℕ) → t a ≡ false → u a ≡ true → fall a (suc n) ≡ a ∷ fall (a + 1) n
  unfolding fall
  fall_true a n x y = rw (x, y) refl

  fall_none : (a n : ℕ) → u a ≡ false → fall a (suc n) ≡ fall (a + 1) n
  unfolding fall
  fall_none a n y = rw y refl

  fall_going : (a n : ℕ) → t a ≡ true → u a ≡ true → fall a (suc n) ≡ fall (a + 1) n
  unfolding fall
  fall_going a n x y = rw (x, y) refl

  rise_empty : (a : ℕ) → rise a 0 ≡ []
  unfolding rise
  rise_empty a = refl

  -- from an index on: either the value before it is false, or a run that started at s continues
  paired : (n a : ℕ) → a + n ≡ e
      → (u a ≡ false → AreRuns t a e (zip (rise a (suc n)) (fall a (suc n))))
      × ((s : ℕ) → u a ≡ true → s < a → ((i : ℕ) → s ≤ i → i < a → t i ≡ true) → AreRuns t s e
      (zip (s ∷ rise a (suc n)) (fall a (suc n))))
  paired zero a at =
      let here : a ≡ e = omega arith in
      let off : t a ≡ false = ap t here ∙ end in (
        λ low. rw (
          rise_none a 0 off,
          fall_none a 0 low,
          rise_empty (a + 1),
        ) (λ i lo hi. absurd (omega arith)),
        λ s high from all. rw (
          rise_none a 0 off,
          fall_true a 0 off high,
          rise_empty (a + 1),
        ) (
          omega arith,
          from,
          omega arith,
          λ i lo hi. absurd (omega arith),
          all,
          inl here,
          λ i lo hi. absurd (omega arith),
        ),
      )
  paired (suc n) a at =
      let rest = paired n (a + 1) (omega arith) in
      let more : (s : ℕ) → s ≤ a → t a ≡ true → ((i : ℕ) → s ≤ i → i < a → t i ≡ true)
      → AreRuns t s e (zip (s ∷ rise (a + 1) (suc n)) (fall (a + 1) (suc n))) = λ s from on all.
      rest.1 s (next a ∙ on) (omega arith) (λ i lo hi.
      elim (cases_eq a i) [ inl q ↦ ap t (sym q) ∙ on | inr ne ↦ all i lo (omega arith) ]) in
      let wide : t a ≡ false → AreRuns t a e (zip (rise (a + 1) (suc n)) (fall (a + 1) (suc n))) =
      λ off. AreRuns-front t a (a + 1) e _ (omega arith)
      (λ i l r. let q : a ≡ i = omega arith in ap t (sym q) ∙ off) (rest.0 (next a ∙ off)) in (
        λ low. elim (t_cases a) [
          | inl on ↦ rw (
            rise_true a (suc n) on low,
            fall_none a (suc n) low,
          ) (more a (omega arith) on (λ i lo hi. absurd (omega arith)))
          | inr off ↦ rw (rise_none a (suc n) off, fall_none a (suc n) low) (wide off)
        ],
        λ s high from all. elim (t_cases a) [
          | inl on ↦ rw (
            rise_going a (suc n) on high,
            fall_going a (suc n) on high,
          ) (more s (omega arith) on all)
          | inr off ↦ rw (rise_none a (suc n) off, fall_true a (suc n) off high) (
            omega arith,
            from,
            omega arith,
            λ i lo hi. absurd (omega arith),
            all,
            inr off,
            wide off,
          )
        ],
      )
    where
      t_cases : (i : ℕ) → (t i ≡ true) ⊎ (t i ≡ false)
      t_cases i = true_or_false (t i)

-- `runs` returns the runs
pub AreRuns-runs : (l : List Bool) → AreRuns (at l) 0 (length l) (runs l)
unfolding runs rise fall
AreRuns-runs l =
    let t : ℕ → Bool = at l in
    let u : ℕ → Bool = value_before l in
    let more : suc (length l) ≡ length l + 1 = omega arith in
    let later : (i : ℕ) → value_before l (i + 1) ≡ at l i =
    λ i. let e : i + 1 ≡ suc i = omega arith in
    ap u e in
    subst (λ n. AreRuns t 0 (length l) (zip (filter (λ i. t i && not (u i)) (range_with_len 0 n))
    (filter (λ i. u i && not (t i)) (range_with_len 0 n)))) more
    ((paired t u (length l) later
    (get_or_past l (length l) false (omega arith)) (length l) 0 (omega arith)).0 refl)

-- each run takes at least one index
AreRuns-few : (t : ℕ → Bool) (a e : ℕ) (P : List (ℕ × ℕ)) → a ≤ e → AreRuns t a e P
    → a + length P ≤ e
AreRuns-few t a e [] le h = omega arith
AreRuns-few t a e (p ∷ ps) le h =
    let rest : p.1 + length ps ≤ e = AreRuns-few t p.1 e ps h.2 h.6 in
    omega (arith, h.0, h.1, rest)

-- the number of runs is at most the number of values
pub runs_few : (l : List Bool) → length (runs l) ≤ length l
runs_few l = omega (arith, AreRuns-few (at l) 0 (length l) (runs l) (omega arith) (AreRuns-runs l))

-- a run isn't empty, and ends at e or before
AreRuns-within : (t : ℕ → Bool) (a e : ℕ) (P : List (ℕ × ℕ)) → AreRuns t a e P
    → All (λ r. (r.0 < r.1) × (r.1 ≤ e)) P
AreRuns-within t a e [] h = All-nil (λ (r : ℕ × ℕ). (r.0 < r.1) × (r.1 ≤ e))
AreRuns-within t a e (p ∷ ps) h =
    All-cons (λ (r : ℕ × ℕ). (r.0 < r.1) × (r.1 ≤ e)) p ps
    (h.1, h.2) (AreRuns-within t p.1 e ps h.6)

-- each run is within the list
pub runs_within : (l : List Bool) → All (λ r. (r.0 < r.1) × (r.1 ≤ length l)) (runs l)
runs_within l = AreRuns-within (at l) 0 (length l) (runs l) (AreRuns-runs l)

-- ---- there is one list of runs
clash : (b : Bool) → b ≡ true → b ≡ false → ⊥
clash b p q = cc

-- the first run starts at one index only
same_start : (t : ℕ → Bool) (a x y : ℕ)
    → a ≤ x → t x ≡ true → ((i : ℕ) → a ≤ i → i < y → t i ≡ false) → y ≤ x
same_start t a x y l on off =
    elim (cases_lt x y) [ inl less ↦ absurd (clash (t x) on (off x l less)) | inr more ↦ more ]

same_end : (t : ℕ → Bool) (e s x y : ℕ)
    → s ≤ x → y ≤ e → ((i : ℕ) → s ≤ i → i < y → t i ≡ true) → (x ≡ e) ⊎ (t x ≡ false) → y ≤ x
same_end t e s x y l le on stop = elim (cases_lt x y) [
  | inl less ↦ elim stop [
    | inl end ↦ absurd (omega arith)
    | inr off ↦ absurd (clash (t x) (on x l less) off)
  ]
  | inr more ↦ more
]

same_pair : (p q : ℕ × ℕ) → p.0 ≡ q.0 → p.1 ≡ q.1 → p ≡ q
same_pair p q h k =
    let first : ℕ → ℕ × ℕ = λ x. (x, p.1) in
    let second : ℕ → ℕ × ℕ = λ y. (q.0, y) in
    ap first h ∙ ap second k

pub same_runs : (t : ℕ → Bool) (a e : ℕ) (P Q : List (ℕ × ℕ)) → AreRuns t a e P
    → AreRuns t a e Q → P ≡ Q
same_runs t a e [] [] h k = refl
same_runs t a e [] (q ∷ qs) h k =
    absurd (clash (t q.0) (k.4 q.0 (omega arith) k.1) (h q.0 k.0 (omega (arith, k.1, k.2))))
same_runs t a e (p ∷ ps) [] h k =
    absurd (clash (t p.0) (h.4 p.0 (omega arith) h.1) (k p.0 h.0 (omega (arith, h.1, h.2))))
same_runs t a e (p ∷ ps) (q ∷ qs) h k =
    let pon : t p.0 ≡ true = h.4 p.0 (omega arith) h.1 in
    let qon : t q.0 ≡ true = k.4 q.0 (omega arith) k.1 in
    let s1 : q.0 ≤ p.0 = same_start t a p.0 q.0 h.0 pon k.3 in
    let s2 : p.0 ≤ q.0 = same_start t a q.0 p.0 k.0 qon h.3 in
    let s : p.0 ≡ q.0 = omega arith in
    let e1 : q.1 ≤ p.1 = same_end t e q.0 p.1 q.1 (omega (arith, h.1)) k.2 k.4 h.5 in
    let e2 : p.1 ≤ q.1 = same_end t e p.0 q.1 p.1 (omega (arith, k.1)) h.2 h.4 k.5 in
    let en : p.1 ≡ q.1 = omega arith in
    let rest : ps ≡ qs = same_runs t q.1 e ps qs (subst (λ x. AreRuns t x e ps) en h.6) k.6 in
    let pair : p ≡ q = same_pair p q s en in
    cc

-- ---- runs of tests
-- a test that agrees with another has its runs
pub AreRuns-same : (t u : ℕ → Bool) (a e : ℕ) (P : List (ℕ × ℕ))
    → ((i : ℕ) → a ≤ i → i < e → u i ≡ t i) → AreRuns t a e P → AreRuns u a e P
AreRuns-same t u a e [] same h = λ i l r. same i l r ∙ h i l r
AreRuns-same t u a e (p ∷ ps) same h = (
  h.0,
  h.1,
  h.2,
  λ i l r. same i l (omega (arith, h.1, h.2)) ∙ h.3 i l r,
  λ i l r. same i (omega (arith, h.0)) (omega (arith, h.2)) ∙ h.4 i l r,
  elim (cases_lt p.1 e) [
    | inl inside ↦ inr (elim h.5 [
      | inl q ↦ absurd (omega arith)
      | inr off ↦ same p.1 (omega (arith, h.0, h.1)) inside ∙ off
    ])
    | inr last ↦ inl (omega (arith, h.2))
  ],
  AreRuns-same t u p.1 e ps (λ i l r. same i (omega (arith, h.0, h.1)) r) h.6,
)

-- runs moved up by m indices
pub AreRuns-shift_run : (t u : ℕ → Bool) (m a e : ℕ) (P : List (ℕ × ℕ))
    → ((i : ℕ) → a ≤ i → i < e → t (m + i) ≡ u i)
    → AreRuns u a e P → AreRuns t (m + a) (m + e) (map (shift_run m) P)
AreRuns-shift_run t u m a e [] same h = λ i l r.
    let place : m + (i - m) ≡ i = omega arith in
    ap t (sym place)
    ∙ same (i - m) (omega arith) (omega arith) ∙ h (i - m) (omega arith) (omega arith)
AreRuns-shift_run t u m a e (p ∷ ps) same h = (
  omega (arith, h.0),
  omega (arith, h.1),
  omega (arith, h.2),
  λ i l r.
      let place : m + (i - m) ≡ i = omega arith in
      ap t (sym place) ∙ same (i - m) (omega arith) (omega (arith, h.1, h.2))
      ∙ h.3 (i - m) (omega arith) (omega arith),
  λ i l r.
      let place : m + (i - m) ≡ i = omega arith in
      ap t (sym place) ∙ same (i - m) (omega (arith, h.0)) (omega (arith, h.2))
      ∙ h.4 (i - m) (omega arith) (omega arith),
  elim (cases_lt p.1 e) [
    | inl inside ↦ inr (elim h.5 [
      | inl q ↦ absurd (omega arith)
      | inr off ↦ same p.1 (omega (arith, h.0, h.1)) inside ∙ off
    ])
    | inr last ↦ inl (omega (arith, h.2))
  ],
  AreRuns-shift_run t u m p.1 e ps (λ i l r. same i (omega (arith, h.0, h.1)) r) h.6,
)
