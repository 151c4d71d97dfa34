-- Bytes that are returned together with the offset of some bits in them.
use Rattle.std.specs.Prelude.{◌≡◌, ℕ, ◌+◌, ◌*◌, ◌^◌, ◌<◌, ◌≤◌, Bool, List, length}
use Rattle.vb_bits.specs.Bits.{bits}

-- the list is the window of the bytes from bit o on, and the end of the window is below 2^64
pub record IsWindow (bytes : List ℕ) (o : ℕ) (list : List Bool) : Type 0 where
  pub inside : o + length list ≤ 8 * length bytes
  pub fits : o + length list < 2 ^ 64
  pub same : bits bytes o (length list) ≡ list
