-- The results of calls that combine two sets or negate one.
use Rattle.std.specs.Prelude.{◌≡◌, ◌≢◌, ◌+◌, length, Result, IfOk, IsErrOf, IsOkUnless}
use Rattle.std.specs.Int.{div_ceil}
use Rattle.vb_bit_buffer.specs.SharedSet.{SharedSet}
use Rattle.vb_bits.specs.Bits.{complement}
use Rattle.vb_bits.specs.Operators.{combined_by}
use Rattle.vb_bits.specs.declared.zip.BitOp.{BitOp}
use Rattle.vb_core.specs.declared.error.BufferError.{BufferError}
use Rattle.vb_core.specs.declared.error.BufferError.TheVariants.{OutOfMemory, LengthMismatch}

-- a set with the bits of two sets of the same length, combined index by index. It has the offset of
-- the left set and as few bytes as hold the bits. `OutOfMemory` is the only error if the lengths
-- are the same; otherwise the call returns `LengthMismatch` with both lengths
pub record GivesCombined (op : BitOp) (l r : SharedSet)
    (result : Result SharedSet BufferError) : Type 0 where
  pub ok : IfOk result (λ s. s.bits ≡ combined_by op l.bits r.bits)
  pub len : IfOk result (λ s. length s.bits ≡ length l.bits)
  pub offset : IfOk result (λ s. s.offset ≡ l.offset)
  pub byte_len : IfOk result (λ s. length s.bytes ≡ div_ceil (l.offset + length l.bits) 8)
  pub same_len : length l.bits ≡ length r.bits → IsOkUnless result OutOfMemory
  pub other_len : length l.bits ≢ length r.bits
      → IsErrOf result (LengthMismatch (length l.bits) (length r.bits))

-- a set with each bit negated. It has the same offset and as few bytes as hold the bits.
-- `OutOfMemory` is the only error
pub record GivesNegated (s : SharedSet) (result : Result SharedSet BufferError) : Type 0 where
  pub ok : IfOk result (λ t. t.bits ≡ complement s.bits)
  pub len : IfOk result (λ t. length t.bits ≡ length s.bits)
  pub offset : IfOk result (λ t. t.offset ≡ s.offset)
  pub byte_len : IfOk result (λ t. length t.bytes ≡ div_ceil (s.offset + length s.bits) 8)
  pub refused : IsOkUnless result OutOfMemory
