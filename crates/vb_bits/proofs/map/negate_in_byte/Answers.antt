use Rattle.std.proofs.Common.{arith}
use Rattle.vb_bits.proofs.MasksLemmas.{Writes_xor_mask}
use Rattle.vb_bits.proofs.WritesLemmas.{Writes_negated_none}
use Rattle.vb_bits.proofs.map.negate_in_byte.Goals as goal

pub returns-then-start-end : goal.returns-then-start-end
returns-then-start-end c = Writes_negated_none _ _ _ (omega arith)

pub returns : goal.returns
returns c = rw c.byte_mask.ensures
    (Writes_xor_mask c.args.bytes.now c.args.start _ c.requires.in_byte (omega arith))
