-- Items gathered from a buffer at indices.
use Rattle.std.specs.Prelude.{◌≡◌, ℕ, ℤ, ◌⊎◌, Bool, List, Option, Result, IfOk, IfErr}
use Rattle.vb_core.specs.declared.error.BufferError.{BufferError}
use Rattle.vb_core.specs.declared.error.BufferError.TheVariants.{OutOfMemory, TakeOutOfRange}
use Rattle.vb_mem.specs.SharedBuffer.{SharedBuffer, ShowsMade}
use Rattle.vb_take.specs.ItemsTaken.{AreTaken, IsFirstUntaken}

-- a new buffer with the same reported alignment, in newly made storage, has the items at the
-- indices; or the call returned `OutOfMemory`, or the first position whose index is out of range
pub record GivesItemsTaken {T : Type 0} (zero : T) (b : SharedBuffer T) (indices : List ℤ)
    (validity : Option (List Bool)) (result : Result (SharedBuffer T) BufferError) : Type 0 where
  pub ok : IfOk result (λ k. AreTaken zero b.list indices validity k.list
      × ShowsMade k.list b.alignment k)
  pub refused : IfErr result (λ e. (e ≡ OutOfMemory)
      ⊎ ((position : ℕ) × (e ≡ TakeOutOfRange position)
      × IsFirstUntaken zero b.list indices validity position))
