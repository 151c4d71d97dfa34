-- Runs of ones within a word.
use Rattle.std.specs.Prelude.{◌≡◌, ℕ, ◌<◌, ◌≤◌, true, false}
use Rattle.vb_bits.specs.Digits.{has_bit}

-- digits `a..b` of the word are ones, the digit after them isn't, and `rest` is the word without
-- its digits below b
pub record CutsOnes (word a b rest : ℕ) : Type 0 where
  pub within : b ≤ 64
  pub ones : (i : ℕ) → a ≤ i → i < b → has_bit word i ≡ true
  pub stop : b < 64 → has_bit word b ≡ false
  pub gone : (i : ℕ) → i < b → has_bit rest i ≡ false
  pub kept : (i : ℕ) → b ≤ i → i < 64 → has_bit rest i ≡ has_bit word i
  pub fewer : rest ≤ word
