-- Digits of words of 64, least significant first, as lists of truth values.
use Rattle.std.specs.Prelude.{◌≡◌, ℕ, ◌+◌, ◌-◌, ◌/◌, ◌%◌, ◌<◌, ◌≤◌, ◌⊎◌, Bool, false, List, ◌++◌}
use Rattle.std.specs.Prelude.{length, map, replicate, slice_index}
use Rattle.std.specs.List.{range_with_len}
use Rattle.vb_bits.specs.Digits.{has_bit}

-- whether digit i of the words is 1; past their end it isn't
abbrev pub word_bit : List ℕ → ℕ → Bool
word_bit words i = has_bit (slice_index words (i / 64)) (i % 64)

-- the window of n digits from digit o on
unfoldable pub word_bits : List ℕ → ℕ → ℕ → List Bool
word_bits words o n = map (word_bit words) (range_with_len o n)

-- the number of words is unchanged, the new window from digit o on is the list m, and every other
-- digit is unchanged
pub record WritesWords (old new : List ℕ) (o : ℕ) (m : List Bool) : Type 0 where
  pub same_len : length new ≡ length old
  pub window : word_bits new o (length m) ≡ m
  pub others : (i : ℕ) → (i < o) ⊎ (o + length m ≤ i) → word_bit new i ≡ word_bit old i

-- the list padded with false to a multiple of n values
abbrev pub filled_to : ℕ → List Bool → List Bool
filled_to n l = l ++ replicate ((n - length l % n) % n) false
