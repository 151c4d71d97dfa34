-- Results of the calls that test or count pairs of bits of two lists.
use Rattle.std.specs.Prelude.{◌≡◌, ◌≢◌, ◌↔◌, ℕ, Bool, List, length}
use Rattle.std.specs.Prelude.{Result, IfOk, IsOk, IsErrOf, IsTrue}
use Rattle.vb_bits.specs.Bits.{count}
use Rattle.vb_bits.specs.Operators.{combined_by}
use Rattle.vb_bits.specs.declared.zip.BitOp.{BitOp}
use Rattle.vb_core.specs.declared.error.BufferError.{BufferError}
use Rattle.vb_core.specs.declared.error.BufferError.TheVariants.{LengthMismatch}

-- for lists of the same length, the result says whether the operator makes no index true; for
-- different lengths it is `LengthMismatch` with both lengths
pub record TellsNone (op : BitOp) (l r : List Bool)
    (result : Result Bool BufferError) : Type 0 where
  pub ok : IfOk result (λ none. IsTrue none ↔ (count (combined_by op l r) ≡ 0))
  pub same_len : length l ≡ length r → IsOk result
  pub other_len : length l ≢ length r → IsErrOf result (LengthMismatch (length l) (length r))

-- for lists of the same length, the result is the number of indices that the operator makes true;
-- for different lengths it is `LengthMismatch` with both lengths
pub record CountsCombined (op : BitOp) (l r : List Bool)
    (result : Result ℕ BufferError) : Type 0 where
  pub ok : IfOk result (λ n. n ≡ count (combined_by op l r))
  pub same_len : length l ≡ length r → IsOk result
  pub other_len : length l ≢ length r → IsErrOf result (LengthMismatch (length l) (length r))
