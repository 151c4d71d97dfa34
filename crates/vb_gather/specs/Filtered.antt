-- The results of calls that keep the values that a mask selects.
use Rattle.std.specs.Prelude.{◌≡◌, ◌≢◌, ℕ, Bool, List, length, Result, IfOk, IsErrOf, IsOkUnless}
use Rattle.std.specs.Int.{div_ceil}
use Rattle.vb_bit_buffer.specs.SharedSet.{SharedSet}
use Rattle.vb_bits.specs.Kept.{kept_by}
use Rattle.vb_core.specs.declared.error.BufferError.{BufferError}
use Rattle.vb_core.specs.declared.error.BufferError.TheVariants.{OutOfMemory, LengthMismatch}

-- P holds of the selection from n values by a mask of the same length. `OutOfMemory` is the only
-- error if the lengths are the same; otherwise the call returns `LengthMismatch` with both lengths
pub record GivesFiltered {S : Type 0} (n mask : ℕ) (P : S → Type 0)
    (result : Result S BufferError) : Type 0 where
  pub ok : IfOk result P
  pub same_len : n ≡ mask → IsOkUnless result OutOfMemory
  pub other_len : n ≢ mask → IsErrOf result (LengthMismatch n mask)

-- a set has the values whose bit in the mask is true, from offset 0 on, in as few bytes as hold
-- them
pub record KeepsBits (mask values : List Bool) (set : SharedSet) : Type 0 where
  pub bits : set.bits ≡ kept_by mask values
  pub offset : set.offset ≡ 0
  pub byte_len : length set.bytes ≡ div_ceil (length set.bits) 8
