-- The result of a comparison of two floats.
use Rattle.std.specs.Prelude.{Bool}
use lib.Ieee.{Float, eq, ne, lt, le}
use Rattle.vb_compare.specs.declared.comparison.Comparison.{Comparison}
use Rattle.vb_compare.specs.declared.comparison.Comparison.TheVariants.{Equal, NotEqual, Less}
use Rattle.vb_compare.specs.declared.comparison.Comparison.TheVariants.{LessOrEqual, Greater}
use Rattle.vb_compare.specs.declared.comparison.Comparison.TheVariants.{GreaterOrEqual}

-- whether a comparison of a with b is true, as IEEE 754 defines it: with a NaN only NotEqual is
-- true
abbrev pub compares_floats : Comparison → Float → Float → Bool
compares_floats Equal a b = eq a b
compares_floats NotEqual a b = ne a b
compares_floats Less a b = lt a b
compares_floats LessOrEqual a b = le a b
compares_floats Greater a b = lt b a
compares_floats GreaterOrEqual a b = le b a
