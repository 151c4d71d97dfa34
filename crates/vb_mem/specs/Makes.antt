-- The contracts of calls that allocate.
use Rattle.std.specs.Prelude.{◌≡◌, ℕ}
use Rattle.std.specs.Prelude.{Result, IfOk, OnErr, IsOk, IsOkUnless}
use Rattle.vb_core.specs.declared.error.BufferError.{BufferError}
use Rattle.vb_core.specs.declared.error.BufferError.TheVariants.{OutOfMemory}
pub use Rattle.vb_core.specs.MakesBytes.{MakesBytes, ReadsBytes}
use Rattle.vb_mem.specs.OpenBuffer.{OpenBuffer, HasRoom}

-- P holds of the value that was made, or the call returned `OutOfMemory`
pub record Makes {T : Type 0} (P : T → Type 0) (result : Result T BufferError) : Type 0 where
  pub ok : IfOk result P
  pub refused : IsOkUnless result OutOfMemory

-- a call that needs capacity for n more items. It succeeds if there is capacity. `OutOfMemory` is
-- its only error, and leaves the buffer unchanged
pub record NeedsRoom {T R : Type 0} (n : ℕ) (result : Result R BufferError)
    (old new : OpenBuffer T) : Type 0 where
  pub in_place : HasRoom old n → IsOk result
  pub err : OnErr result (new ≡ old)
  pub refused : IsOkUnless result OutOfMemory
