use Rattle.std.proofs.Common.{arith}
use Rattle.vb_bits.proofs.WritesLemmas.{Writes_push}
use Rattle.vb_bit_bytes.proofs.grow.push_bit_unchecked.Goals as goal

pub returns-else-end-len-clause-bits : goal.returns-else-end-len-clause-bits
returns-else-end-len-clause-bits g c =
    Writes_push _ _ _ _ _ c.push_unchecked.ensures.adds.list c.from.ensures (omega arith)
