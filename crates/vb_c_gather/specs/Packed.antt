-- The contract of a pack of truth values.
use Rattle.std.specs.Prelude.{◌≡◌, ℕ, Bool, List, length}
use Rattle.vb_bits.specs.Bits.{bits}
use Rattle.vb_bits.specs.Writes.{Writes}
use Rattle.vb_pack.specs.WordBits.{filled_to}

-- the first bits are these values; the rest of their last byte is false, and later bytes are
-- unchanged
pub record Packs (bools : List Bool) (old new : List ℕ) : Type 0 where
  pub packed : bits new 0 (length bools) ≡ bools
  pub written : Writes old new 0 (filled_to 8 bools)
