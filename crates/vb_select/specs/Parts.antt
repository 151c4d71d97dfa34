-- The parts of a window that are read separately.
use Rattle.std.specs.Prelude.{◌≡◌, ℕ, ◌+◌, ◌*◌, ◌%◌, ◌<◌, ◌≤◌, min}
use Rattle.vb_select.specs.declared.parts.Parts.{Parts}
use Rattle.vb_count.specs.Looks.{looks, rest_looks, chunk_bits}

-- the parts of the window of n bits from bit o on: the head is within one byte, and the bits after
-- it start at a whole byte
pub record IsCutOf (o n : ℕ) (p : Parts) : Type 0 where
  pub whole : p.head + chunk_bits * p.chunks + p.rest ≡ n
  pub short : p.rest < chunk_bits
  pub in_byte : o % 8 + p.head ≤ 8
  pub aligned : p.head < n → (o + p.head) % 8 ≡ 0
  pub looks : looks o n ≡ min p.head 1 + p.chunks + rest_looks p.rest
