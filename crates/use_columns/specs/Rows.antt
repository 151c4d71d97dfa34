-- The view of a column in contracts.
use Rattle.std.specs.Prelude.{ℕ, Bool, List}

-- a column: its values, and which of them are valid
pub record Rows : Type 0 where
  pub values : List ℕ
  pub valid : List Bool
