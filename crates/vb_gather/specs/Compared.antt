-- The result of a comparison of values, some of which may be null.
use Rattle.std.specs.Prelude.{◌≡◌, ℕ, Bool, List, length, Option, Some, None}
use Rattle.vb_bits.specs.Bits.{bits}
use Rattle.vb_bits.specs.Operators.{combined_by}
use Rattle.vb_bits.specs.declared.zip.BitOp.TheVariants.{And}

-- the results. If there is a validity, results at its false bits are false
abbrev pub where_valid : Option (List Bool) → List Bool → List Bool
where_valid None answers = answers
where_valid (Some validity) answers = combined_by And answers validity

-- the first n bits of the new bytes are the list l; the number of bytes is the same
pub record HoldsBits (n : ℕ) (l : List Bool) (old new : List ℕ) : Type 0 where
  pub same_len : length new ≡ length old
  pub bits_are : bits new 0 n ≡ l
  pub len : length l ≡ n
