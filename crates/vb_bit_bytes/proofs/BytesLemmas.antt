-- The byte buffer after a write of bits.
use Rattle.std.proofs.Common.{◌≡◌, ℕ, List, ap, sym, ◌∙◌}
use Rattle.vb_bits.specs.Bits.{bits}
use Rattle.vb_bits.specs.Operators.{bit_op, combined_by}
use Rattle.vb_bits.specs.Writes.{Writes}
use Rattle.vb_bits.specs.declared.zip.BitOp.{BitOp}
use Rattle.vb_bits.proofs.BitsLemmas.{length-bits}
use Rattle.vb_bits.proofs.OperatorsLemmas.{length-merged_bits}
use Rattle.vb_bits.proofs.WindowLemmas.{windows}
use Rattle.vb_bits.proofs.WritesLemmas.{writes}

-- a window combined with another one
pub bits-combined_by : (op : BitOp) (b c r : List ℕ) (o p n : ℕ) → Writes b c o
    (combined_by op (bits b o n) (bits r p n))
    → bits c o n ≡ combined_by op (bits b o n) (bits r p n)
bits-combined_by op b c r o p n w =
    ap (bits c o) (sym (length-merged_bits (bit_op op) b r o p n)) ∙ w.window

-- a window copied from another one
pub bits-copied : (b c r : List ℕ) (o p n : ℕ) → Writes b c o (bits r p n) → bits c o n ≡ bits r p n
bits-copied b c r o p n w = ap (bits c o) (sym (length-bits r p n)) ∙ w.window

-- ---- for `#[tactic(auto, using(..))]`
pub ruleset edits = (windows, writes, bits-combined_by, bits-copied)
