-- Bits taken at indices.
use Rattle.std.specs.Prelude.{◌≡◌, ℕ, ℤ, negsuc, ◌<◌, ◌⊎◌, Bool, true, false, List, length}
use Rattle.std.specs.Prelude.{slice_get, slice_index_or, Option, Some, None, IsSome}
use Rattle.std.specs.Prelude.{Result, Ok, Err, if◌then◌else◌}
use Rattle.std.specs.Option.{option_and_then}
use Rattle.vb_bits.specs.Bits.{at}
use Rattle.vb_bits.specs.Digits.{has_bit}
use Rattle.vb_core.specs.Indices.{place_of}
use Rattle.vb_core.specs.declared.error.BufferError.{BufferError}
use Rattle.vb_core.specs.declared.error.BufferError.TheVariants.{OutOfMemory, TakeOutOfRange}

-- position i counts: there is no validity, or its value at i is true
abbrev pub is_valid : Option (List Bool) → ℕ → Bool
is_valid None i = true
is_valid (Some validity) i = at validity i

-- each of the first n positions has the value that it takes
abbrev pub TakenTo : {T : Type 0} → ℕ → (ℕ → Option T) → (ℕ → T) → Type 0
TakenTo n taken has = (i : ℕ) → i < n → taken i ≡ Some (has i)

-- the value at an index, if the index is in range
abbrev pub value_at : List Bool → ℤ → Option Bool
value_at l index = option_and_then (slice_get l) (place_of index)

-- the value that position i takes: false if the position doesn't count, else the value at its
-- index, or none if the index is out of range
abbrev pub taken_at : List Bool → List ℤ → Option (List Bool) → ℕ → Option Bool
taken_at l indices validity i =
    if is_valid validity i then value_at l (slice_index_or indices i (negsuc 0)) else Some false

-- the lowest bits of the word are the values that n positions take; or p is the first of these
-- positions that takes none
abbrev pub TakesPart : (ℕ → Option Bool) → ℕ → Result ℕ ℕ → Type 0
TakesPart taken n (Ok word) = TakenTo n taken (has_bit word)
TakesPart taken n (Err p) = (p < n) × (taken p ≡ None) × ((k : ℕ) → k < p → IsSome (taken k))

-- these are the values taken, one for each index
pub record IsTaken (l : List Bool) (indices : List ℤ) (validity : Option (List Bool))
    (taken : List Bool) : Type 0 where
  pub same_len : length taken ≡ length indices
  pub each : (i : ℕ) → i < length indices → taken_at l indices validity i ≡ Some (at taken i)

-- position p is the first that takes no value: it counts, and its index is out of range
pub record IsFirstPast (l : List Bool) (indices : List ℤ) (validity : Option (List Bool))
    (p : ℕ) : Type 0 where
  pub within : p < length indices
  pub past : taken_at l indices validity p ≡ None
  pub before : (i : ℕ) → i < p → IsSome (taken_at l indices validity i)

-- the errors of a take: memory ran out, or the first position that takes no value
abbrev pub TakeRefused : List Bool → List ℤ → Option (List Bool) → BufferError → Type 0
TakeRefused l indices validity e =
    (e ≡ OutOfMemory)
    ⊎ ((position : ℕ) × (e ≡ TakeOutOfRange position) × IsFirstPast l indices validity position)
