-- Closures that are called with the value at an index.
use Rattle.std.specs.Prelude.{ℕ, Bool, List}
use Rattle.vb_bits.specs.Bits.{at}

-- the step of a closure that is called with index i of a list and the value there
abbrev pub asked_of : {F R : Type 0} → (F → ℕ → Bool → R → F → Type 0) → List Bool
    → F → ℕ → R → F → Type 0
asked_of step l p i r q = step p i (at l i) r q
