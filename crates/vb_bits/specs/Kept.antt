-- Values selected by a mask.
use Rattle.std.specs.Prelude.{Bool, true, false, List, [], ◌∷◌}

-- the values whose bit is true
abbrev pub kept_by : {T : Type 0} → List Bool → List T → List T
kept_by [] values = []
kept_by (bit ∷ bits) [] = []
kept_by (true ∷ bits) (value ∷ values) = value ∷ kept_by bits values
kept_by (false ∷ bits) (value ∷ values) = kept_by bits values
