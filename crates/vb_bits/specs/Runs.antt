-- Runs of true values, and the last true value.
use Rattle.std.specs.Prelude.{ℕ, ◌+◌, Bool, false, not, ◌&&◌, List, ◌∷◌, length, filter, Option}
use Rattle.std.specs.Prelude.{None}
use Rattle.std.specs.List.{range_with_len, zip, last_or}
use Rattle.vb_bits.specs.Bits.{at, places}

-- the value before index i; before the first one it is false
abbrev pub value_before : List Bool → ℕ → Bool
value_before l i = at (false ∷ l) i

-- the indices of true values whose previous value is false
abbrev pub rises : List Bool → List ℕ
rises l = filter (λ i. at l i && not (value_before l i)) (range_with_len 0 (length l + 1))

-- the indices of false values whose previous value is true; the length may be one of them
abbrev pub falls : List Bool → List ℕ
falls l = filter (λ i. value_before l i && not (at l i)) (range_with_len 0 (length l + 1))

-- the runs of true values, in order: the first index of each, and the index after its last
unfoldable pub runs : List Bool → List (ℕ × ℕ)
runs l = zip (rises l) (falls l)

-- a run, with a added to both of its indices
abbrev pub shift_run : ℕ → ℕ × ℕ → ℕ × ℕ
shift_run a r = (a + r.0, a + r.1)

-- the index of the last true value, or None if there is none
abbrev pub last_place : List Bool → Option ℕ
last_place l = last_or None (places l)
