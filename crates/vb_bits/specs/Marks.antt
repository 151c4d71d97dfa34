-- Bits set at indices.
use Rattle.std.specs.Prelude.{ℕ, ◌<◌, ◌≤◌, ◌||◌, ◌==◌, Bool, List, length, map}
use Rattle.std.specs.Prelude.{Option, Some, All}
use Rattle.std.specs.Iterator.{Drains, YieldsThen}
use Rattle.std.specs.List.{range_with_len, list_any}
use Rattle.vb_bits.specs.Bits.{at}

-- the list with true at these indices
abbrev pub with_true : List Bool → List ℕ → List Bool
with_true l places =
    map (λ i. at l i || list_any (λ p. p == i) places) (range_with_len 0 (length l))

module _ {S : Type 0} (steps : S → Option ℕ → S → Type 0) where
  -- calls from s returned only numbers below n and then ended, and P holds for the numbers
  abbrev pub GivesBelow : ℕ → S → (List ℕ → Type 0) → Type 0
  GivesBelow n s P = (places : List ℕ) × Drains steps s places × All (λ p. p < n) places × P places

  -- calls from s returned numbers below n, and then `index`, which isn't below n
  abbrev pub FirstNotBelow : ℕ → S → ℕ → Type 0
  FirstNotBelow n s index = (places : List ℕ) × (t : S)
      × YieldsThen steps s places (Some index) t × All (λ p. p < n) places × (n ≤ index)
