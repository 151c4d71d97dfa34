-- Bits gathered from a set at indices.
use Rattle.std.specs.Prelude.{◌≡◌, ℤ, Bool, List, length, Option, Result, IfOk, IfErr}
use Rattle.vb_bit_buffer.specs.SharedSet.{SharedSet, IsFreshSet}
use Rattle.vb_core.specs.declared.error.BufferError.{BufferError}
use Rattle.vb_take.specs.Takes.{IsTaken, TakeRefused}

-- a new set has the bits of a list at the indices; or the call returned `OutOfMemory`, or the first
-- position whose index is out of range
pub record GivesBitsTaken (l : List Bool) (indices : List ℤ) (validity : Option (List Bool))
    (result : Result SharedSet BufferError) : Type 0 where
  pub ok : IfOk result (λ s. IsTaken l indices validity s.bits × IsFreshSet s.bits s)
  pub len : IfOk result (λ s. length s.bits ≡ length indices)
  pub refused : IfErr result (TakeRefused l indices validity)
