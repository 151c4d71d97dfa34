-- Bits of bytes, least significant first, and lists of truth values.
use Rattle.std.specs.Prelude.{◌≡◌, ℕ, ◌/◌, ◌%◌, ◌<◌, ◌≤◌, Bool, false, not, ◌==◌, List, length, map}
use Rattle.std.specs.Prelude.{take, filter, count_by, slice_index, slice_index_or, Option, Some}
use Rattle.std.specs.Prelude.{None, IsTrue}
use Rattle.std.specs.Int.{bit_at}
use Rattle.std.specs.List.{range_with_len}

-- whether bit i of the bytes is set; past their end it isn't
abbrev pub bit_of : List ℕ → ℕ → Bool
bit_of bytes i = bit_at (slice_index bytes (i / 8)) (i % 8) == 1

-- the window of n bits from bit o on
unfoldable pub bits : List ℕ → ℕ → ℕ → List Bool
bits bytes o n = map (bit_of bytes) (range_with_len o n)

-- whether the value at index i is true; past the end it isn't
abbrev pub at : List Bool → ℕ → Bool
at l i = slice_index_or l i false

-- the number of true values
abbrev pub count : List Bool → ℕ
count l = count_by (λ b. b) l

-- each value negated
abbrev pub complement : List Bool → List Bool
complement l = map not l

-- the indices of the true values, in ascending order
unfoldable pub places : List Bool → List ℕ
places l = filter (at l) (range_with_len 0 (length l))

-- the indices of the false values, in ascending order
abbrev pub holes : List Bool → List ℕ
holes l = places (complement l)

-- r is the index of the n-th true value, counted from 0, or None if at most n values are true
abbrev pub Selects : List Bool → ℕ → Option ℕ → Type 0
Selects l n None = count l ≤ n
Selects l n (Some p) = (p < length l) × IsTrue (at l p) × (count (take p l) ≡ n)

-- r is the index of each true value that has n true values before it: the inverse of counting
abbrev pub InvertsCount : List Bool → ℕ → Option ℕ → Type 0
InvertsCount l n r = (i : ℕ) → i < length l → IsTrue (at l i) → count (take i l) ≡ n → r ≡ Some i
