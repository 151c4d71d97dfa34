-- Words with a 1 for each bit that has the sought value.
use Rattle.std.specs.Prelude.{◌≡◌, ℕ, ◌+◌, ◌-◌, ◌<◌, ◌≤◌, Bool, false, List}
use Rattle.vb_bits.specs.Bits.{bits, at}
use Rattle.vb_bits.specs.Digits.{has_bit}
use Rattle.vb_count.specs.Hits.{hits}

-- the digits of the word from digit t on show which of the bits before bit e are v, the last one
-- at the highest digit; those below t are 0
pub record ShowsBefore (v : Bool) (bytes : List ℕ) (e t w : ℕ) : Type 0 where
  pub shown : (i : ℕ) → t ≤ i → i < 64 → has_bit w i ≡ at (hits v (bits bytes 0 e)) (e + i - 64)
  pub clear : (i : ℕ) → i < t → has_bit w i ≡ false
