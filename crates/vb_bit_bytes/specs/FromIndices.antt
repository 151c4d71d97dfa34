-- Sets made from the indices of their true bits.
use Rattle.std.specs.Prelude.{◌≡◌, ℕ, ◌⊎◌, Option}
use Rattle.vb_bits.specs.Marks.{FirstNotBelow}
use Rattle.vb_core.specs.declared.error.BufferError.{BufferError}
use Rattle.vb_core.specs.declared.error.BufferError.TheVariants.{OutOfMemory, IndexOutOfRange}

-- the error of a call that makes a set from the items of an iterator: out of memory, or the first
-- index that isn't below n
abbrev pub IndexRefused : {U S : Type 0} → (U → S → Type 0) → (S → Option ℕ → S → Type 0)
    → ℕ → U → BufferError → Type 0
IndexRefused {S = S} becomes steps n source e =
    (e ≡ OutOfMemory)
    ⊎ ((s : S) × (index : ℕ) × becomes source s × (e ≡ IndexOutOfRange index n)
    × FirstNotBelow steps n s index)
