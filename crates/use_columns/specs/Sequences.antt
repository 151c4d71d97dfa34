-- Columns, index by index.
use Rattle.std.specs.Prelude.{ℕ, List, [], ◌∷◌, max}

-- the greater of the two values at each index of both lists
abbrev pub greater_of : List ℕ → List ℕ → List ℕ
greater_of [] others = []
greater_of (value ∷ values) [] = []
greater_of (value ∷ values) (other ∷ others) = max value other ∷ greater_of values others
