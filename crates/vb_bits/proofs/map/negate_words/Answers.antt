use Rattle.std.proofs.Common.{arith}
use Rattle.vb_bits.proofs.WritesLemmas.{Writes-complement}
use Rattle.vb_bits.proofs.map.negate_words.Goals as goal

pub returns : goal.returns
returns c = Writes-complement _ _ _ _ _ _ _ _ c.negate_blocks.ensures c.negate_few_words-2.ensures
    (omega arith) (omega arith)
