use Rattle.std.proofs.Common.{refl, arith}
use Rattle.vb_bits.proofs.OperatorsLemmas.{Writes-into}
use Rattle.vb_bits.proofs.into.merge_many_into.Goals as goal

pub returns : goal.returns
returns g c =
    let blocks = Writes-into g.M.Merge.bit _ _ _ _ _ _ _ _ _ _ _ _ _ _ c.merge_byte_into.ensures
    c.merge_blocks_into.ensures refl refl refl refl in
    let words = Writes-into g.M.Merge.bit _ _ _ _ _ _ _ _ _ _ _ _ _ _ blocks
    c.merge_words_into.ensures (omega arith) (omega arith) (omega arith) refl in
    Writes-into g.M.Merge.bit _ _ _ _ _ _ _ _ _ _ _ _ _ _ words c.merge_rest_into.ensures
    (omega arith) (omega arith) (omega arith) (omega arith)
