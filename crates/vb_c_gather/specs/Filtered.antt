-- Contracts of filters of bits and of values.
use Rattle.std.specs.Prelude.{◌≡◌, ℕ, Bool, List, ◌++◌, drop}
use Rattle.vb_bits.specs.Bits.{bits, count}
use Rattle.vb_bits.specs.InBytes.{InBytes}
use Rattle.vb_bits.specs.Kept.{kept_by}
use Rattle.vb_bits.specs.Writes.{Writes}

-- the bits from bit o on are those that the mask selects, and the result is their number; every
-- other bit is unchanged
pub record FiltersBitsAt (mask values : List Bool) (old new : List ℕ) (o answer : ℕ) : Type 0 where
  pub number : answer ≡ count mask
  pub window : Writes old new o (kept_by mask values)

-- a mask of n bits from bit m on is in its bytes, and `out` has a window from bit o on with a bit
-- for each set bit of the mask
pub record KeptFitsAt (out : List ℕ) (o : ℕ) (mask : List ℕ) (m n : ℕ) : Type 0 where
  pub by : InBytes mask m n
  pub into : InBytes out o (count (bits mask m n))

-- the values that the mask selects are in front, and the result is their number; the items after
-- them are unchanged
pub record Filters {T : Type 0} (mask : List Bool) (values old new : List T) (answer : ℕ)
    : Type 0 where
  pub number : answer ≡ count mask
  pub items : new ≡ kept_by mask values ++ drop answer old
