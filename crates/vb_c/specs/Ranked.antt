-- Windows with tables of counts that the caller keeps.
use Rattle.std.specs.Prelude.{◌≡◌, ℕ, List, length}
use Rattle.vb_bits.specs.InBytes.{InBytes}
use Rattle.vb_rank.specs.Tables.{blocks}

-- the n bits from bit o on are in the bytes, and the table has an entry for each of their blocks
pub record HasTable (bytes : List ℕ) (o n : ℕ) (table : List ℕ) : Type 0 where
  pub window : InBytes bytes o n
  pub size : length table ≡ blocks n
