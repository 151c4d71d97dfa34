-- The contracts of calls that find the indices of many ranks.
use Rattle.std.specs.Prelude.{◌≡◌, ◌≢◌, ℕ, Bool, List, length, Option}
use Rattle.std.specs.Prelude.{Result, IfOk, IsOk, IsErrOf, OnErr}
use Rattle.std.specs.List.{AllZip}
use Rattle.vb_bits.specs.Bits.{Selects, InvertsCount}
use Rattle.vb_core.specs.declared.error.BufferError.{BufferError}
use Rattle.vb_core.specs.declared.error.BufferError.TheVariants.{LengthMismatch}

-- if the numbers of indices and ranks are equal, each is the index of the true bit of its rank.
-- Otherwise the call returns `LengthMismatch` with both lengths, and the indices do not change
pub record FindsMany (l : List Bool) (ranks : List ℕ) (old new : List (Option ℕ))
    (result : Result (Unit {0}) BufferError) : Type 0 where
  pub places : IfOk result (λ _. AllZip (Selects l) ranks new)
  pub each : IfOk result (λ _. AllZip (InvertsCount l) ranks new)
  pub same_len : length ranks ≡ length old → IsOk result
  pub other_len : length ranks ≢ length old
      → IsErrOf result (LengthMismatch (length ranks) (length old))
  pub kept : OnErr result (new ≡ old)
