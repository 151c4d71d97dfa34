-- Comparisons as numbers, as C passes them.
use Rattle.std.specs.Prelude.{ℕ, zero, suc, ◌<◌, List}
use Rattle.vb_bits.specs.InBytes.{InBytes}
use Rattle.vb_compare.specs.declared.comparison.Comparison.{Comparison}
use Rattle.vb_compare.specs.declared.comparison.Comparison.TheVariants.{Equal, NotEqual, Less}
use Rattle.vb_compare.specs.declared.comparison.Comparison.TheVariants.{LessOrEqual, Greater}
use Rattle.vb_compare.specs.declared.comparison.Comparison.TheVariants.{GreaterOrEqual}

-- the comparison of each number from 0 to 5
abbrev pub comparison_of : ℕ → Comparison
comparison_of zero = Equal
comparison_of (suc zero) = NotEqual
comparison_of (suc (suc zero)) = Less
comparison_of (suc (suc (suc zero))) = LessOrEqual
comparison_of (suc (suc (suc (suc zero)))) = Greater
comparison_of (suc (suc (suc (suc (suc more))))) = GreaterOrEqual

-- the n bits from bit o on are in the bytes, and the number is that of a comparison
pub record CompareFits (out : List ℕ) (o n code : ℕ) : Type 0 where
  pub window : InBytes out o n
  pub known : code < 6
