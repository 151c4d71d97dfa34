-- Truth values that may be null, as C passes and gets them.
use Rattle.std.specs.Prelude.{ℕ, Bool, true, List, map, Option, is_some}
use Rattle.vb_bits.specs.Bits.{bits}
use Rattle.vb_bits.specs.InBytes.{InBytes}
use Rattle.vb_bits.specs.Writes.{Writes}
use Rattle.vb_c_core.specs.Validity.{HasValidity, validity_of}
use Rattle.vb_kleene.specs.Kleene.{truths, is_truth}

-- the n values from bit o on are in the bytes, and so is their validity, unless all are valid
abbrev pub ColumnFits : List ℕ → ℕ → Bool → List ℕ → ℕ → ℕ → Type 0
ColumnFits bytes o all_valid validity v n =
    InBytes bytes o n × HasValidity all_valid validity v n

-- the truth values of such a column
abbrev pub column_at : List ℕ → ℕ → Bool → List ℕ → ℕ → ℕ → List (Option Bool)
column_at bytes o all_valid validity v n =
    truths (bits bytes o n) (validity_of all_valid validity v n)

-- the window from bit t on says which truth values are true, and the one from bit v on which aren't
-- null; every other bit is unchanged
pub record WritesColumn (column : List (Option Bool)) (old_trues new_trues : List ℕ) (t : ℕ)
    (old_valid new_valid : List ℕ) (v : ℕ) : Type 0 where
  pub trues : Writes old_trues new_trues t (map (is_truth true) column)
  pub valid : Writes old_valid new_valid v (map is_some column)
