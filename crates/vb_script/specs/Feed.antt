-- The waiting bytes, and the effect of a read on them.
use Rattle.std.specs.Prelude.{◌≡◌, ℕ, ◌^◌, ◌<◌, Bool, true, false, List, length}
use Rattle.std.specs.Prelude.{Option}
use Rattle.std.specs.Io.KnownBytes.{IsAtEnd}

-- more bytes came, or the input has ended
abbrev pub FeedsMore : List ℕ → List ℕ → Option (List ℕ) → Bool → Type 0
FeedsMore old new remaining true = (length old < length new) × (length new < 2 ^ 64)
FeedsMore old new remaining false = (new ≡ old) × IsAtEnd remaining
