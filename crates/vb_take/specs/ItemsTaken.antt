-- Items taken at indices.
use Rattle.std.specs.Prelude.{◌≡◌, ℕ, ℤ, negsuc, ◌<◌, Bool, List, length, slice_get}
use Rattle.std.specs.Prelude.{slice_index_or, Option, Some, None, IsSome, if◌then◌else◌}
use Rattle.std.specs.Option.{option_and_then}
use Rattle.vb_core.specs.Indices.{place_of}
use Rattle.vb_take.specs.Takes.{is_valid}

-- the item at an index, if the index is in range
abbrev pub item_named : {T : Type 0} → List T → ℤ → Option T
item_named items index = option_and_then (slice_get items) (place_of index)

-- item i, or zero if there is no item i
abbrev pub item_or : {T : Type 0} → T → List T → ℕ → T
item_or zero items i = slice_index_or items i zero

module _ {T : Type 0} (zero : T) (items : List T) (indices : List ℤ)
    (validity : Option (List Bool)) where
  -- the item that position i takes: zero if the position doesn't count, else the item at its index,
  -- or none if the index is out of range
  abbrev pub item_taken : ℕ → Option T
  item_taken i =
      if is_valid validity i then item_named items (slice_index_or indices i (negsuc 0))
      else Some zero

  -- these are the items taken, one for each index
  pub record AreTaken (taken : List T) : Type 0 where
    pub same_len : length taken ≡ length indices
    pub each : (i : ℕ) → i < length indices → item_taken i ≡ slice_get taken i

  -- position p is the first that takes no item: it counts, and its index is out of range
  pub record IsFirstUntaken (p : ℕ) : Type 0 where
    pub within : p < length indices
    pub past : item_taken p ≡ None
    pub before : (i : ℕ) → i < p → IsSome (item_taken i)
