use Rattle.std.proofs.Common.{arith}
use Rattle.vb_bits.proofs.WritesLemmas.{Writes_negated_none, Writes-complement}
use Rattle.vb_bits.proofs.map.negate_bytes.Goals as goal

pub loop-k-init : goal.loop-k-init
loop-k-init c = Writes_negated_none _ _ _ (omega arith)

pub loop-k-preserved : goal.loop-k-preserved
loop-k-preserved c = Writes-complement _ _ _ _ _ _ _ _ c.loop-k.invariant c.negate_in_byte.ensures
    (omega arith) (omega arith)
