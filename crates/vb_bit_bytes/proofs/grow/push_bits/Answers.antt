use Rattle.std.proofs.Common.{arith}
use Rattle.vb_bits.proofs.WritesLemmas.{Writes_push_run}
use Rattle.vb_bit_bytes.proofs.grow.push_bits.Goals as goal

pub returns-clause-bits : goal.returns-clause-bits
returns-clause-bits g c =
    Writes_push_run _ _ _ _ _ _ _ _ _ c.in_ok-push_n.ensures.ok.list c.byte_of.ensures
    (omega arith) (omega arith) (omega arith) (omega arith) c.fill-2.ensures.bits
