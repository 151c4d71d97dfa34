-- Values scattered by a mask.
use Rattle.std.specs.Prelude.{Bool, true, false, List, [], ◌∷◌}

-- the items, with the values in place of those whose bit is true, in order, as long as there are
-- values
abbrev pub scattered_by : {T : Type 0} → List Bool → List T → List T → List T
scattered_by [] values items = items
scattered_by (bit ∷ bits) values [] = []
scattered_by (false ∷ bits) values (item ∷ items) = item ∷ scattered_by bits values items
scattered_by (true ∷ bits) [] (item ∷ items) = item ∷ items
scattered_by (true ∷ bits) (value ∷ values) (item ∷ items) = value ∷ scattered_by bits values items
