-- Powers of two.
use Rattle.std.specs.Prelude.{◌≡◌, ℕ, ◌+◌, ◌/◌, ◌^◌, nat_lt, IsTrue, ◌⊎◌, if◌then◌else◌}
use Rattle.std.proofs.Common.{zero, suc}
use Rattle.std.specs.Int.{is_power_of_two}

-- the number of times that n can be halved until it is below 2, at most the first argument
abbrev pub halvings : ℕ → ℕ → ℕ
halvings zero n = 0
halvings (suc most) n = if nat_lt n 2 then 0 else halvings most (n / 2) + 1

-- n is a power of two: either it has one set bit, as `is_power_of_two` tests, or 2 to the power of
-- its number of halvings is n, which evaluates for a literal n
abbrev pub IsPower : ℕ → Type 0
IsPower n = IsTrue (is_power_of_two n) ⊎ (2 ^ halvings 64 n ≡ n)
