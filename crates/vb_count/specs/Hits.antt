-- The values of a list that equal the sought one.
use Rattle.std.specs.Prelude.{Bool, true, false, List}
use Rattle.vb_bits.specs.Bits.{complement}

-- for each value, whether it is v
abbrev pub hits : Bool → List Bool → List Bool
hits true l = l
hits false l = complement l
