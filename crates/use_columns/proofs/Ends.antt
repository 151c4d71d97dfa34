-- The ends of a list with one more number.
use Rattle.std.proofs.Common.{ℕ, ◌≤◌, List, [], ◌∷◌, ◌++◌, min, max, Some, inl, inr}
use Rattle.std.proofs.Common.{sym, subst, arith}
use Rattle.std.specs.List.{All, Contains}
use Rattle.std.proofs.Math.Nat.{min-le_left, min-le_right, min-eq_left, min-eq_right}
use Rattle.std.proofs.Math.Nat.{max-eq_left, max-eq_right}
use Rattle.std.proofs.lemmas.Bool.{cases_lt}
use Rattle.std.proofs.lemmas.List.Elements.{All-push, All-weaker}
use Rattle.std.proofs.lemmas.List.Elements.{Contains-append_left, Contains-push}
use Rattle.use_columns.specs.Columns.{AreEnds}

-- all elements are between wider ends too
wider : (xs : List ℕ) (a b v c d : ℕ) → c ≤ a → b ≤ d → c ≤ v → v ≤ d
    → All (λ x. (a ≤ x) × (x ≤ b)) xs → All (λ x. (c ≤ x) × (x ≤ d)) (xs ++ v ∷ [])
wider xs a b v c d low high left right all =
    All-push (λ x. (c ≤ x) × (x ≤ d)) xs v
    (All-weaker (λ x. (a ≤ x) × (x ≤ b)) (λ x. (c ≤ x) × (x ≤ d))
    (λ x h. (omega (arith, h.0, low), omega (arith, h.1, high))) xs all)
    (left, right)

-- the lesser of an element and the number that is added
least_stands : (xs : List ℕ) (a v : ℕ) → Contains xs a → Contains (xs ++ v ∷ []) (min a v)
least_stands xs a v stands =
    elim (cases_lt v a) as (λ _. Contains (xs ++ v ∷ []) (min a v)) [
      | inl less ↦ subst (Contains (xs ++ v ∷ []))
          (sym (min-eq_right (omega (arith, less)))) (Contains-push xs v)
      | inr le ↦ subst (Contains (xs ++ v ∷ []))
          (sym (min-eq_left le)) (Contains-append_left xs (v ∷ []) a stands)
    ]

-- and the greater one
greatest_stands : (xs : List ℕ) (b v : ℕ) → Contains xs b → Contains (xs ++ v ∷ []) (max b v)
greatest_stands xs b v stands =
    elim (cases_lt b v) as (λ _. Contains (xs ++ v ∷ []) (max b v)) [
      | inl less ↦ subst (Contains (xs ++ v ∷ []))
          (sym (max-eq_right (omega (arith, less)))) (Contains-push xs v)
      | inr le ↦ subst (Contains (xs ++ v ∷ []))
          (sym (max-eq_left le)) (Contains-append_left xs (v ∷ []) b stands)
    ]

-- the ends of the longer list
pub ends_with : (xs : List ℕ) (ends : ℕ × ℕ) (v : ℕ) → AreEnds xs (Some ends)
    → AreEnds (xs ++ v ∷ []) (Some (min ends.0 v, max ends.1 v))
ends_with xs ends v h = (
  least_stands xs ends.0 v h.0,
  greatest_stands xs ends.1 v h.1,
  wider xs ends.0 ends.1 v (min ends.0 v) (max ends.1 v) (min-le_left ends.0 v)
      (omega arith) (min-le_right ends.0 v) (omega arith) h.2,
)
