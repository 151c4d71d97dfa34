-- The runs of a test.
use Rattle.std.proofs.Common.{◌≡◌, ◌⊎◌, ℕ, ◌+◌, ◌-◌, ◌<◌, ◌≤◌, Bool, true, false, List, [], ◌∷◌}
use Rattle.std.proofs.Common.{length, map, refl, sym, ◌∙◌, subst, arith}
use Rattle.std.specs.List.{range_with_len}
use Rattle.std.proofs.lemmas.List.FromFn.{length-map-range_with_len, get_or-map-range_with_len}
use Rattle.vb_bits.specs.Bits.{bit_of, bits, at}
use Rattle.vb_bits.specs.Runs.{runs, shift_run}
use Rattle.vb_bits.proofs.BitsLemmas.{length-bits, at-bits}
use Rattle.vb_bits.proofs.RunsLemmas.{AreRuns, AreRuns-runs, AreRuns-shift_run, AreRuns-front}
use Rattle.vb_bits.proofs.RunsLemmas.{AreRuns-same, same_runs}
use Rattle.vb_walk.specs.Walks.{runs_in}

-- `runs_in` returns the runs
AreRuns-runs_in : (t : ℕ → Bool) (a n e : ℕ) → e ≡ a + n → AreRuns t a e (runs_in t a n)
unfolding runs_in
AreRuns-runs_in t a n e at_end =
    let l : List Bool = map t (range_with_len a n) in
    let size : length l ≡ n = length-map-range_with_len t a n in
    let same : (i : ℕ) → 0 ≤ i → i < n → t (a + i) ≡ at l i =
    λ i lo hi. sym (get_or-map-range_with_len t a n i (a + i) false hi refl) in
    let here : a + 0 ≡ a = omega arith in
    subst (λ x. AreRuns t x e (map (shift_run a) (runs l))) here
    (subst (λ x. AreRuns t (a + 0) x (map (shift_run a) (runs l))) (sym at_end)
    (AreRuns-shift_run t (at l) a 0 n
    (runs l) same (subst (λ x. AreRuns (at l) 0 x (runs l)) size (AreRuns-runs l))))

-- no runs if no value is true
pub runs_in_none : (t : ℕ → Bool) (a n : ℕ)
    → ((i : ℕ) → a ≤ i → i < a + n → t i ≡ false) → runs_in t a n ≡ []
runs_in_none t a n h =
    same_runs t a (a + n) (runs_in t a n) [] (AreRuns-runs_in t a n (a + n) refl) h

-- the first run, from s up to f, and then the runs from f on
pub runs_in_first : (t : ℕ → Bool) (a e s f : ℕ) → a ≤ s → s < f → f ≤ e
    → ((i : ℕ) → a ≤ i → i < s → t i ≡ false) → ((i : ℕ) → s ≤ i → i < f → t i ≡ true)
    → (f ≡ e) ⊎ (t f ≡ false) → runs_in t a (e - a) ≡ (s, f) ∷ runs_in t f (e - f)
runs_in_first t a e s f from some to off on stop =
    same_runs t a e (runs_in t a (e - a))
    ((s, f) ∷ runs_in t f (e - f)) (AreRuns-runs_in t a (e - a) e (omega arith)) (
      from,
      some,
      to,
      off,
      on,
      stop,
      AreRuns-runs_in t f (e - f) e (omega arith),
    )

-- false values at the front, and another test that agrees after them
pub runs_in_skip : (t u : ℕ → Bool) (a b e : ℕ)
    → a ≤ b → b ≤ e → ((i : ℕ) → a ≤ i → i < b → t i ≡ false)
    → ((i : ℕ) → b ≤ i → i < e → t i ≡ u i) → runs_in t a (e - a) ≡ runs_in u b (e - b)
runs_in_skip t u a b e le to off same =
    same_runs t a e
    (runs_in t a (e - a)) (runs_in u b (e - b)) (AreRuns-runs_in t a (e - a) e (omega arith))
    (AreRuns-front t a b e (runs_in u b (e - b)) le off (AreRuns-same u t b e
    (runs_in u b (e - b)) same (AreRuns-runs_in u b (e - b) e (omega arith))))

-- the runs of a window
pub runs_in-bits : (t : ℕ → Bool) (b : List ℕ) (o n : ℕ)
    → ((i : ℕ) → i < n → t i ≡ bit_of b (o + i)) → runs_in t 0 n ≡ runs (bits b o n)
runs_in-bits t b o n h =
    let l : List Bool = bits b o n in
    same_runs t 0 n (runs_in t 0 n) (runs l) (AreRuns-runs_in t 0 n n (omega arith))
    (AreRuns-same (at l) t 0 n (runs l) (λ i lo hi. h i hi ∙ sym (at-bits b o n i false hi))
    (subst (λ x. AreRuns (at l) 0 x (runs l)) (length-bits b o n) (AreRuns-runs l)))
