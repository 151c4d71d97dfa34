-- The number of set bits of two combined windows.
use Rattle.std.specs.Prelude.{ℕ, Bool, List}
use Rattle.vb_bits.specs.Bits.{bits, count}
use Rattle.vb_bits.specs.Operators.{merged_by}

-- the number of set bits after f combines the n bits of a from bit o on with those of b from bit p
-- on
abbrev pub merged_ones : (Bool → Bool → Bool) → List ℕ → ℕ → List ℕ → ℕ → ℕ → ℕ
merged_ones f a o b p n = count (merged_by f (bits a o n) (bits b p n))
