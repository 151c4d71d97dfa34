-- Whole numbers as indices of bits.
use Rattle.std.specs.Prelude.{ℕ, ℤ, pos, negsuc, ◌^◌, nat_lt, if◌then◌else◌, Option, Some, None}

-- the index that a number names: `None` if the number is below 0 or above `usize::MAX`
abbrev pub place_of : ℤ → Option ℕ
place_of (pos n) = if nat_lt n (2 ^ 64) then Some n else None
place_of (negsuc n) = None
