-- Bits deposited at the set bits of a mask.
use Rattle.std.specs.Prelude.{Bool, true, false, List, [], ◌∷◌}

-- the bits, in order, where the mask is true, as long as there are any; the others are false
abbrev pub spread_by : List Bool → List Bool → List Bool
spread_by [] bits = []
spread_by (false ∷ mask) bits = false ∷ spread_by mask bits
spread_by (true ∷ mask) [] = false ∷ spread_by mask []
spread_by (true ∷ mask) (bit ∷ bits) = bit ∷ spread_by mask bits
