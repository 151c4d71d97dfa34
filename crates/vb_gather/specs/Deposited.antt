-- The results of calls that scatter bits to the true indices of a mask.
use Rattle.std.specs.Prelude.{◌≡◌, Bool, false, List, replicate}
use Rattle.vb_bit_buffer.specs.SharedSet.{SharedSet, IsFreshSet}
use Rattle.vb_bits.specs.Bits.{complement, count}
use Rattle.vb_bits.specs.Kept.{kept_by}
use Rattle.vb_filter.specs.Spread.{spread_by}

-- a set with the values at the indices where the mask is true, in order, and false elsewhere. So
-- the mask selects exactly these values from the set
pub record DepositsBits (mask values : List Bool) (set : SharedSet) : Type 0 where
  pub fresh : IsFreshSet (spread_by mask values) set
  pub kept : kept_by mask set.bits ≡ values
  pub others : kept_by (complement mask) set.bits ≡ replicate (count (complement mask)) false
