-- Windows of one length that are in their bytes.
use Rattle.std.specs.Prelude.{ℕ, List}
use Rattle.vb_bits.specs.InBytes.{InBytes}

-- two windows of n bits are in their bytes
pub record BothInBytes (left : List ℕ) (l : ℕ) (right : List ℕ) (r n : ℕ) : Type 0 where
  pub one : InBytes left l n
  pub other : InBytes right r n

-- a window of n bits to write is in its bytes, and so are two to read
pub record AllInBytes (out : List ℕ) (o : ℕ) (left : List ℕ) (l : ℕ) (right : List ℕ) (r n : ℕ)
    : Type 0 where
  pub into : InBytes out o n
  pub from : BothInBytes left l right r n
