-- Contracts of a deposit.
use Rattle.std.specs.Prelude.{ℕ, Bool, List}
use Rattle.vb_bits.specs.Bits.{bits, count}
use Rattle.vb_bits.specs.InBytes.{InBytes}
use Rattle.vb_bits.specs.Writes.{Writes}
use Rattle.vb_filter.specs.Spread.{spread_by}

-- the window to write and that of the mask are in their bytes, and the values have a bit for each
-- set bit of the mask
pub record DepositFits (out : List ℕ) (o : ℕ) (values : List ℕ) (v : ℕ) (mask : List ℕ) (m n : ℕ)
    : Type 0 where
  pub into : InBytes out o n
  pub by : InBytes mask m n
  pub from : InBytes values v (count (bits mask m n))

-- the window from bit o on has the values where the mask is true, in order, and false elsewhere;
-- every other bit is unchanged
abbrev pub Deposits : List ℕ → ℕ → List Bool → List ℕ → List ℕ → ℕ → Type 0
Deposits values v mask old new o = Writes old new o (spread_by mask (bits values v (count mask)))
