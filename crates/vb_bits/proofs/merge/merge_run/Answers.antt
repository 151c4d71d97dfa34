use Rattle.std.proofs.Common.{refl, arith}
use Rattle.vb_bits.proofs.OperatorsLemmas.{Writes-merged_by}
use Rattle.vb_bits.proofs.merge.merge_run.Goals as goal

pub returns : goal.returns
returns g c =
    let words = Writes-merged_by g.M.Merge.bit _ _ _ _ _ _ _ _ _ _ _ c.merge_in_byte.ensures
    c.merge_words.ensures refl refl refl in
    Writes-merged_by g.M.Merge.bit _ _ _ _ _ _ _ _ _ _ _ words c.merge_rest.ensures (omega arith)
    (omega arith) (omega arith)
