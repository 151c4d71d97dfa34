-- Closures that are called until their first error.
use Rattle.std.specs.Prelude.{◌≡◌, ℕ, List, ◌∷◌, ◌++◌, Result, Ok, Err}
use Rattle.std.specs.List.{FoldsTo}

-- a closure in state p was called with the first indices of the list l. The last call returned the
-- error e, the calls before it returned no error, and the closure is then in state q
module _ {F E : Type 0} (step : F → ℕ → Result (Unit {0}) E → F → Type 0) where
  abbrev pub StopsWith : F → List ℕ → E → F → Type 0
  StopsWith p l e q =
      (front : List ℕ) × (i : ℕ) × (back : List ℕ) × (r : F)
      × (l ≡ front ++ i ∷ back) × FoldsTo (λ s k t. step s k (Ok tt) t) p front r
      × step r i (Err e) q
