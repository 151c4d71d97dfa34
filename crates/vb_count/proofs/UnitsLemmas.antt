-- Windows of units of w bytes, one after the other.
use Rattle.std.proofs.Common.{◌≡◌, ℕ, ◌+◌, ◌*◌, ◌<◌, ◌≤◌, ap, arith}
use Rattle.std.proofs.Math.Nat.{mul-zero, mul-add, mul-one}
use Rattle.std.proofs.lemmas.Nat.{column_fits}

-- no units have no bits
pub units_none : (w : ℕ) → 8 * (w * 0) ≡ 0
units_none w = ap (λ x. 8 * x) (mul-zero w)

-- the bits of one more unit
pub units_more : (w k : ℕ) → 8 * (w * (k + 1)) ≡ 8 * (w * k) + 8 * w
units_more w k = omega (arith, mul-add w k 1, mul-one w)

-- one more unit is within the existing units
pub units_within : (w k n : ℕ) → k < n → 8 * (w * k) + 8 * w ≤ 8 * (w * n)
units_within w k n h = omega (arith, column_fits w k w n h (omega arith))
