-- Validities, as a flag and bytes from C.
use Rattle.std.specs.Prelude.{◌≡◌, ℕ, Bool, false, List, Option, Some, None, if◌then◌else◌}
use Rattle.vb_bits.specs.Bits.{bits}
use Rattle.vb_bits.specs.InBytes.{InBytes}

-- unless all positions count, the bytes have a bit for each of n positions, from bit v on
abbrev pub HasValidity : Bool → List ℕ → ℕ → ℕ → Type 0
HasValidity all_valid bytes v n = all_valid ≡ false → InBytes bytes v n

-- these bits, or None if all positions count
abbrev pub validity_of : Bool → List ℕ → ℕ → ℕ → Option (List Bool)
validity_of all_valid bytes v n = if all_valid then None else Some (bits bytes v n)
