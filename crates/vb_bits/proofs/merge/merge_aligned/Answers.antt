use Rattle.std.proofs.Common.{refl, arith}
use Rattle.vb_bits.proofs.OperatorsLemmas.{Writes-merged_by}
use Rattle.vb_bits.proofs.merge.merge_aligned.Goals as goal

pub returns : goal.returns
returns g c = Writes-merged_by g.M.Merge.bit _ _ _ _ _ _ _ _ _ _ _
    c.merge_run.ensures c.merge_run-2.ensures refl refl (omega arith)
