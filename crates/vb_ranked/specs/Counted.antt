-- The contracts of calls that append bits to a set with its counts.
use Rattle.std.specs.Prelude.{◌≡◌, ℕ, ◌+◌, ◌^◌, ◌<◌, ◌≤◌, Bool, [], ◌∷◌, ◌++◌, length}
use Rattle.std.specs.Prelude.{Result, IsOk, IsOkUnless, IsErrOf, OnErr}
use Rattle.vb_core.specs.declared.error.BufferError.{BufferError}
use Rattle.vb_core.specs.declared.error.BufferError.TheVariants.{OutOfMemory, TooManyBits}
use Rattle.vb_directory.specs.Counts.{HeldCounts, AreCounts, numbers_for}
use Rattle.vb_set.specs.OpenSet.{OpenSet}

-- a call that needs n more bits. If the set has bits and capacity, it succeeds, since the counts
-- then have capacity too. It returns `TooManyBits` if offset, length and n together are 2^64 or
-- more; otherwise `OutOfMemory` is its only error. On error the set and its capacity are unchanged
pub record NeedsCountedBits {T : Type 0} (n : ℕ) (result : Result T BufferError)
    (old new : OpenSet) : Type 0 where
  pub in_room : 0 < length old.bits → length old.bits + n ≤ old.room → IsOk result
  pub fits : old.offset + length old.bits + n < 2 ^ 64 → IsOkUnless result OutOfMemory
  pub too_many : 2 ^ 64 ≤ old.offset + length old.bits + n → IsErrOf result TooManyBits
  pub err : OnErr result (new ≡ old)

-- a set and its counts are ready for one more bit. The set has capacity for it, and the counts have
-- capacity for all bits that the set can hold. With that bit, true or false, the counts are those
-- of the set: they count the true bits before each block, and the new bit is before none
pub record IsReadyForBit (set : OpenSet) (counts : HeldCounts) : Type 0 where
  pub room : length set.bits + 1 ≤ set.room
  pub counts_room : numbers_for set.room ≤ counts.room
  pub exact_with : (v : Bool) → AreCounts (set.bits ++ v ∷ []) counts.numbers
