-- Windows combined by an operator.
use Rattle.std.specs.Prelude.{ℕ, Bool, List}
use Rattle.vb_bits.specs.Operators.{combined_by}
use Rattle.vb_bits.specs.Writes.{Writes}
use Rattle.vb_bits.specs.declared.zip.BitOp.{BitOp}

-- the window from bit o on is the combination of two lists by an operator; every other bit is
-- unchanged
abbrev pub Combines : BitOp → List ℕ → List ℕ → ℕ → List Bool → List Bool → Type 0
Combines op old new o left right = Writes old new o (combined_by op left right)
