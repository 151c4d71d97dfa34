-- Writes to a block of 64 items, by the bits of a word: bit k is for position a + k.
use Rattle.std.specs.Prelude.{◌≡◌, ℕ, ℤ, negsuc, ◌+◌, ◌-◌, ◌<◌, ◌≤◌, true, false, List, drop}
use Rattle.std.specs.Prelude.{slice_index_or, Some, None}
use Rattle.vb_bits.specs.Digits.{has_bit}
use Rattle.vb_take.specs.ItemsTaken.{item_named}

module _ {T : Type 0} (zero : T) (items : List T) (indices : List ℤ) (a word : ℕ) where
  -- each of the first n positions from a on whose bit of `word` is 1 has the item at its index; all
  -- other items are those of the old list
  pub record PutsOnes (n : ℕ) (old new : List T) : Type 0 where
    pub put : (k : ℕ) → k < n → has_bit word k ≡ true
        → item_named items (slice_index_or indices (a + k) (negsuc 0))
        ≡ Some (slice_index_or new (a + k) zero)
    pub kept : (i : ℕ) → i < a + n → (a ≤ i → has_bit word (i - a) ≡ false)
        → slice_index_or new i zero ≡ slice_index_or old i zero
    pub behind : drop (a + n) new ≡ drop (a + n) old

  -- position p, one of the 64 from a on, is the first whose bit of `word` is 1 and whose index is
  -- out of range; the positions before it have their items
  pub record FailsAt (p : ℕ) (old new : List T) : Type 0 where
    pub from : a ≤ p
    pub within : p < a + 64
    pub counts : has_bit word (p - a) ≡ true
    pub past : item_named items (slice_index_or indices p (negsuc 0)) ≡ None
    pub put : PutsOnes (p - a) old new

-- each of the first n positions from a on whose bit of `word` is 0 has zero; all other items are
-- those of the old list
pub record PutsZeros {T : Type 0} (zero : T) (a word n : ℕ) (old new : List T) : Type 0 where
  pub put : (k : ℕ) → k < n → has_bit word k ≡ false → slice_index_or new (a + k) zero ≡ zero
  pub kept : (i : ℕ) → i < a + n → (a ≤ i → has_bit word (i - a) ≡ true)
      → slice_index_or new i zero ≡ slice_index_or old i zero
  pub behind : drop (a + n) new ≡ drop (a + n) old
