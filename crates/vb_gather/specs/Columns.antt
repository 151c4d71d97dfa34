-- Sets made from truth values that may be null.
use Rattle.std.specs.Prelude.{Bool, true, List, map, Option, is_some}
use Rattle.vb_bit_buffer.specs.SharedSet.{SharedSet, IsFreshSet}
use Rattle.vb_kleene.specs.Kleene.{is_truth}

-- two sets made from a column: `values` marks its true values, `validity` its values that are not
-- null
pub record IsColumn (column : List (Option Bool)) (values validity : SharedSet) : Type 0 where
  pub trues : IsFreshSet (map (is_truth true) column) values
  pub valid : IsFreshSet (map is_some column) validity
