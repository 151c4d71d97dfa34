-- The least and the greatest of values.
use Rattle.std.specs.Prelude.{ℤ, ◌≤ℤ◌, List, [], ◌∷◌, All}
use Rattle.std.specs.List.{Contains}

-- m is one of the values, and none is below it
pub record IsLeast {T : Type 0} (number : T → ℤ) (values : List T) (m : T) : Type 0 where
  pub there : Contains values m
  pub least : All (λ x. number m ≤ℤ number x) values

-- m is one of the values, and none is above it
pub record IsGreatest {T : Type 0} (number : T → ℤ) (values : List T) (m : T) : Type 0 where
  pub there : Contains values m
  pub greatest : All (λ x. number x ≤ℤ number m) values

-- a value shows the list of it alone, and a first value that is repeated counts once
pub record Chooses {T : Type 0} (shows : T → List T → Type 0) : Type 0 where
  pub one : (x : T) → shows x (x ∷ [])
  pub twice : (x m : T) (xs : List T) → shows m (x ∷ x ∷ xs) → shows m (x ∷ xs)
