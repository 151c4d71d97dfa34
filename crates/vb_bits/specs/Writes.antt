-- Writes of bits in bytes.
use Rattle.std.specs.Prelude.{◌≡◌, ℕ, ◌+◌, ◌<◌, ◌≤◌, ◌⊎◌, Bool, List, ◌++◌, length, drop}
use Rattle.vb_bits.specs.Bits.{bit_of, bits}

-- the number of bytes is unchanged, the new window from bit o on is the list m, and every other bit
-- is unchanged
pub record Writes (old new : List ℕ) (o : ℕ) (m : List Bool) : Type 0 where
  pub same_len : length new ≡ length old
  pub window : bits new o (length m) ≡ m
  pub others : (i : ℕ) → (i < o) ⊎ (o + length m ≤ i) → bit_of new i ≡ bit_of old i

-- the number of bytes and the bits from bit n on are unchanged
pub record KeepsBehind (n : ℕ) (old new : List ℕ) : Type 0 where
  pub same_len : length new ≡ length old
  pub others : (i : ℕ) → n ≤ i → bit_of new i ≡ bit_of old i

-- the old bytes, followed by the bytes of the new list past the length of the old one
abbrev pub extension : List ℕ → List ℕ → List ℕ
extension old new = old ++ drop (length old) new
