use Rattle.std.proofs.Common.{refl, arith}
use Rattle.vb_bits.proofs.OperatorsLemmas.{Writes_merged_none, Writes_merged_digits}
use Rattle.vb_bits.proofs.merge.merge_in_byte.Goals as goal

pub returns-then-len-eq0 : goal.returns-then-len-eq0
returns-then-len-eq0 g c =
    Writes_merged_none g.M.Merge.bit _ _ _ _ _ (omega (arith, c.if-len-eq0.true))

pub returns : goal.returns
returns g c =
    Writes_merged_digits g.M.Merge.bit c.args.dst.now _ c.args.src.now _ _ _ c.args.len _ _ _
    (omega (arith, c.requires.in_byte))
    c.read_few-left.ensures
    c.read_few-right.ensures c.word.ensures c.write_in_byte.ensures refl
