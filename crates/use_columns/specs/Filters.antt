-- The conditions of a filter on a column.
use Rattle.std.specs.Prelude.{ℕ, Bool, ◌&&◌, ◌==◌, nat_lt, nat_le, List, [], ◌∷◌}
use Rattle.use_columns.specs.declared.condition.Condition.{Condition}
use Rattle.use_columns.specs.declared.condition.Condition.TheVariants.{Below, AtLeast, Equals}

-- a value meets the condition
abbrev pub is_met : Condition → ℕ → Bool
is_met (Below number) value = nat_lt value number
is_met (AtLeast number) value = nat_le number value
is_met (Equals number) value = value == number

-- the rows that are valid and whose value passes the test
abbrev pub matches_of : (ℕ → Bool) → List Bool → List ℕ → List Bool
matches_of test [] values = []
matches_of test (bit ∷ bits) [] = []
matches_of test (bit ∷ bits) (value ∷ values) = (test value && bit) ∷ matches_of test bits values
