-- Predicates on codes and on values, as lists.
use Rattle.std.specs.Prelude.{◌≡◌, ℕ, ◌<◌, ◌≤◌, ◌⊎◌, List, [], length, take, slice_index}
use Rattle.std.specs.Prelude.{Option, None, Some}
use Rattle.std.specs.List.{All, Contains}
use Rattle.vortex_buffer.specs.declared.BufferError.{BufferError}
use Rattle.vortex_buffer.specs.declared.BufferError.TheVariants.{IndexOutOfRange, OutOfMemory}

-- each code is an index of a dictionary of n values
abbrev pub AreKnown : ℕ → List ℕ → Type 0
AreKnown n codes = All (λ code. code < n) codes

-- the error names the first code that is out of range, or memory ran out
abbrev pub IsUnknownOrMemory : ℕ → List ℕ → BufferError → Type 0
IsUnknownOrMemory n codes error = (error ≡ OutOfMemory)
    ⊎ ((k : ℕ) × (k < length codes) × AreKnown n (take k codes)
    × (error ≡ IndexOutOfRange (slice_index codes k) n))

-- the least and the greatest number of the list, or none if it is empty
abbrev pub AreEnds : List ℕ → Option (ℕ × ℕ) → Type 0
AreEnds xs None = xs ≡ []
AreEnds xs (Some ends) = Contains xs ends.0 × Contains xs ends.1
    × All (λ x. (ends.0 ≤ x) × (x ≤ ends.1)) xs
