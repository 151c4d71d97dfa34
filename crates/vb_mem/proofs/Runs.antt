-- Runs of calls of `next`.
use Rattle.std.proofs.Common.{◌≤◌, refl, sym, subst, arith, Option, Some, None, MatchOption}
use Rattle.std.proofs.Common.{List, [], ◌∷◌, ◌++◌}
use Rattle.vb_core.specs.ExactCounts.{unsigned_range_counts, signed_range_counts}
use Rattle.vb_mem.specs.Collected.{RangesGiveAll}
use Rattle.std.specs.Iterator.{Yields, Count, IsFinite, size, MakesProgress, IsNearerEnd}

-- a run, and one more call that returns an item
pub Yields-push : {S A : Type 0} (steps : S → Option A → S → Type 0) (xs : List A) (s t u : S)
    (x : A) → Yields steps s xs t → steps t (Some x) u → Yields steps s (xs ++ x ∷ []) u
Yields-push steps [] s t u x run step = (u, subst (λ a. steps a (Some x) u) (sym run) step, refl)
Yields-push steps (y ∷ ys) s t u x run step =
    (run.0, run.1, Yields-push steps ys run.0 t u x run.2 step)

-- a run, and another one from the state in which it ended
pub Yields-append : {S A : Type 0} (steps : S → Option A → S → Type 0) (xs ys : List A)
    (s t u : S) → Yields steps s xs t → Yields steps t ys u → Yields steps s (xs ++ ys) u
Yields-append steps [] ys s t u run more = subst (λ a. Yields steps a ys u) (sym run) more
Yields-append steps (x ∷ xs) ys s t u run more =
    (run.0, run.1, Yields-append steps xs ys run.0 t u run.2 more)

-- one more call that returns an item makes progress toward the end
pub IsNearerEnd-after : {S A : Type 0} (can : S → Type 0) (left : S → Count) (s t u : S)
    (r : Option A) → IsFinite (left t) → size (left t) ≤ size (left s)
    → MakesProgress can left t r u → MatchOption r (Unit {0}) (λ _. IsNearerEnd can left s u)
IsNearerEnd-after can left s t u None finite near goes = tt
IsNearerEnd-after can left s t u (Some x) finite near goes =
    let on = goes.on finite in (on.0, on.1, omega (arith, on.2))

-- the number of items of a range is known
pub ranges_give_all : RangesGiveAll
ranges_give_all = (
  (λ run seen. unsigned_range_counts.is_length run.from run seen refl),
  (λ run seen. signed_range_counts.is_length run.from run seen refl),
)
