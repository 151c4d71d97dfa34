use Rattle.std.proofs.Common.{arith}
use Rattle.vb_bits.proofs.OperatorsLemmas.{Writes-merged_by}
use Rattle.vb_bits.proofs.merge.merge_words.Goals as goal

pub returns : goal.returns
returns g c = Writes-merged_by g.M.Merge.bit _ _ _ _ _ _ _ _ _ _ _ c.merge_blocks.ensures
    c.merge_few_words.ensures (omega arith) (omega arith) (omega arith)
