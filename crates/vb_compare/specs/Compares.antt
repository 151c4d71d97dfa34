-- The result of a comparison of two numbers.
use Rattle.std.specs.Prelude.{ℤ, Bool, not, int_lt, int_le}
use Rattle.std.specs.Ordering.{int_eq}
use Rattle.vb_compare.specs.declared.comparison.Comparison.{Comparison}
use Rattle.vb_compare.specs.declared.comparison.Comparison.TheVariants.{Equal, NotEqual, Less}
use Rattle.vb_compare.specs.declared.comparison.Comparison.TheVariants.{LessOrEqual, Greater}
use Rattle.vb_compare.specs.declared.comparison.Comparison.TheVariants.{GreaterOrEqual}

-- whether a comparison of a with b is true
abbrev pub compares : Comparison → ℤ → ℤ → Bool
compares Equal a b = int_eq a b
compares NotEqual a b = not (int_eq a b)
compares Less a b = int_lt a b
compares LessOrEqual a b = int_le a b
compares Greater a b = int_lt b a
compares GreaterOrEqual a b = int_le b a
