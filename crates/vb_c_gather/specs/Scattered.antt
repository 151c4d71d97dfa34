-- The result of a call that scatters values by a mask.
use Rattle.std.specs.Prelude.{◌≡◌, ℕ, Bool, List}
use Rattle.vb_bits.specs.Bits.{count}
use Rattle.vb_expand.specs.Scatter.{scattered_by}

-- the values replace the items that the mask selects, in order; their number is returned
pub record Scatters {T : Type 0} (mask : List Bool) (values old new : List T) (answer : ℕ)
    : Type 0 where
  pub number : answer ≡ count mask
  pub items : new ≡ scattered_by mask values old
