-- A search that continues from list to list with the rank that is left.
use Rattle.std.specs.Prelude.{◌≡◌, ℕ, ◌+◌, ◌-◌, ◌*◌, ◌^◌, ◌<◌, ◌≤◌, Bool, List, Option, Some}
use Rattle.std.specs.Prelude.{length}
use Rattle.std.below.core.specs.declared.ops.ControlFlow.{ControlFlow}
use Rattle.std.below.core.specs.declared.ops.ControlFlow.TheVariants.{Continue, Break}
use Rattle.vb_select.specs.declared.nearest.Nearest.{Nearest}
use Rattle.vb_select.specs.declared.nearest.Nearest.TheVariants.{First, Last}
use Rattle.vb_select.specs.declared.search.Search.{Search}
use Rattle.vb_bits.specs.Bits.{bits, count, Selects}
use Rattle.vb_count.specs.Hits.{hits}

-- the index of the n-th true value of the list, or the rank that is left after the list
abbrev pub Searched : List Bool → ℕ → ControlFlow ℕ ℕ → Type 0
Searched l n (Break p) = Selects l n (Some p)
Searched l n (Continue left) = n ≡ left + count l

-- the n bits from index `from` of the search on are in bounds, and their end fits in a usize
pub record IsWithin (bytes : List ℕ) (s : Search) (n : ℕ) : Type 0 where
  pub inside : s.offset + s.from + n ≤ 8 * length bytes
  pub fits : s.offset + s.from + n < 2 ^ 64

-- r is the result of searching the n bits from index `from` of the search on
abbrev pub SearchAnswers : List ℕ → Search → ℕ → ControlFlow ℕ ℕ → Type 0
SearchAnswers bytes s n r = Searched
    (hits s.value (bits bytes s.offset (s.from + n)))
    (s.n + count (hits s.value (bits bytes s.offset s.from)))
    r

-- the rank of the nearest of n values
abbrev pub rank_of : Nearest → ℕ → ℕ
rank_of First n = 0
rank_of Last n = n - 1

-- the index of the nearest true value of the list, or None if there is none
abbrev pub SelectsNearest : Nearest → List Bool → Option ℕ → Type 0
SelectsNearest which l r = Selects l (rank_of which (count l)) r
