-- The contracts of calls that make bytes from items, or items from bytes.
use Rattle.std.specs.Prelude.{◌≡◌, ◌≢◌, ℕ, ◌%◌, ◌^◌, ◌<◌, ◌≤◌}
use Rattle.std.specs.Prelude.{Result, IfOk, IsErrOf, IsOkUnless}
use Rattle.vb_core.specs.declared.error.BufferError.{BufferError}
use Rattle.vb_core.specs.declared.error.BufferError.TheVariants.{OutOfMemory, TooManyBytes}
use Rattle.vb_core.specs.declared.error.BufferError.TheVariants.{ByteLength}

-- P holds of the value, which has n bytes. If n is 2 ^ 64 or more, the call returns `TooManyBytes`;
-- otherwise `OutOfMemory` is its only error
pub record MakesBytes {T : Type 0} (n : ℕ) (P : T → Type 0)
    (result : Result T BufferError) : Type 0 where
  pub ok : IfOk result P
  pub fits : n < 2 ^ 64 → IsOkUnless result OutOfMemory
  pub too_many : 2 ^ 64 ≤ n → IsErrOf result TooManyBytes

-- P holds of the value read from n bytes. If an item's size does not divide n, the call returns
-- `ByteLength`; otherwise `OutOfMemory` is its only error
pub record ReadsBytes {T : Type 0} (n size : ℕ) (P : T → Type 0)
    (result : Result T BufferError) : Type 0 where
  pub ok : IfOk result P
  pub whole : n % size ≡ 0 → IsOkUnless result OutOfMemory
  pub uneven : n % size ≢ 0 → IsErrOf result (ByteLength n size)
