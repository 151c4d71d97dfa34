-- The nearest true value from an index on, and before one.
use Rattle.std.specs.Prelude.{◌≡◌, ℕ, ◌<◌, ◌≤◌, Bool, false, List, length, Option, Some, None}
use Rattle.std.specs.Prelude.{IsTrue}
use Rattle.vb_bits.specs.Bits.{at}

-- p is the index of the first true value from index `from` on, or None if there is none
abbrev pub IsNext : List Bool → ℕ → Option ℕ → Type 0
IsNext l from None = (i : ℕ) → from ≤ i → at l i ≡ false
IsNext l from (Some p) = (from ≤ p) × (p < length l) × IsTrue (at l p)
    × ((i : ℕ) → from ≤ i → i < p → at l i ≡ false)

-- p is the index of the last true value before index `before`, or None if there is none
abbrev pub IsPrevious : List Bool → ℕ → Option ℕ → Type 0
IsPrevious l before None = (i : ℕ) → i < before → at l i ≡ false
IsPrevious l before (Some p) = (p < before) × (p < length l) × IsTrue (at l p)
    × ((i : ℕ) → p < i → i < before → at l i ≡ false)
