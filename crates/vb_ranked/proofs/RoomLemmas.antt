-- The capacity of a set, and the capacity of its counts.
use Rattle.std.proofs.Common.{◌≡◌, ℕ, ◌≤◌}
use Rattle.vb_directory.specs.Counts.{numbers_for}

-- capacity for the counts of one number of bits is capacity for the counts of an equal number
pub held_on : {old new : ℕ} (room : ℕ) → new ≡ old → numbers_for old ≤ room
    → numbers_for new ≤ room
held_on room same held = rw same held
