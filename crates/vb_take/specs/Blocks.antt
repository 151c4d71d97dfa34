-- Blocks of 64 indices.
use Rattle.std.specs.Prelude.{◌≡◌, ℕ, ℤ, ◌-◌, ◌^◌, ◌<◌, ◌≤◌, Bool, false, List, length}
use Rattle.std.specs.Prelude.{min, slice_get, slice_index, Some, Result, Ok, Err}
use Rattle.std.specs.Prelude.{IsTrue, if◌then◌else◌}
use Rattle.std.specs.Option.{unwrap_or}
use Rattle.vb_bits.specs.Digits.{has_bit}
use Rattle.vb_core.specs.Indices.{place_of}

-- the index as a number of 32 bits; the greatest such number if the index is negative or above it
abbrev pub narrow_place : ℤ → ℕ
narrow_place index = min (unwrap_or (place_of index) (2 ^ 32 - 1)) (2 ^ 32 - 1)

-- bit k of the word is the value of the list at index k of the block, and false if bit k of `valid`
-- is 0; or p is the first position whose bit of `valid` is 1 and whose index isn't below the length
abbrev pub TakesBlock : List Bool → List ℕ → ℕ → Result ℕ ℕ → Type 0
TakesBlock l block valid (Ok word) = (k : ℕ) → k < 64
    → (if has_bit valid k then slice_get l (slice_index block k) else Some false)
    ≡ Some (has_bit word k)
TakesBlock l block valid (Err p) =
    (p < 64) × IsTrue (has_bit valid p) × (length l ≤ slice_index block p)
    × ((k : ℕ) → k < p → IsTrue (has_bit valid k) → slice_index block k < length l)
