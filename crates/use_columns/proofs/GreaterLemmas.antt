-- Columns of pairs.
use Rattle.std.proofs.Common.{◌≡◌, ℕ, List, [], ◌∷◌, map, max, refl, ap}
use Rattle.use_columns.specs.Sequences.{greater_of}

-- the greater values of two columns that come from one list of pairs
pub greater_of-map : {T : Type 0} (one other : T → ℕ) (pairs : List T)
    → greater_of (map one pairs) (map other pairs) ≡ map (λ p. max (one p) (other p)) pairs
greater_of-map one other [] = refl
greater_of-map one other (p ∷ pairs) =
    ap (λ l. max (one p) (other p) ∷ l) (greater_of-map one other pairs)
