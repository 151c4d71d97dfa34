-- A window in bounds of its bytes.
use Rattle.std.specs.Prelude.{ℕ, ◌+◌, ◌*◌, ◌^◌, ◌<◌, ◌≤◌, List, length}

-- the n bits from bit o on are in bounds, and `o + n` fits in 64 bits
pub record InBytes (bytes : List ℕ) (o n : ℕ) : Type 0 where
  pub inside : o + n ≤ 8 * length bytes
  pub fits : o + n < 2 ^ 64
