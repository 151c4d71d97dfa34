use Rattle.vb_bits.specs.Operators.{bit_op}
use Rattle.vb_bits.proofs.OperatorsLemmas.{length-merged_bits}
use Rattle.vb_c_core.proofs.PartLemmas.{Writes_in_part}
use Rattle.vb_c.proofs.combine.combine_within.Goals as goal

pub returns : goal.returns
returns c =
    Writes_in_part _ _ _ _ c.args.len _
    (length-merged_bits (bit_op c.args.op) c.args.left.now c.args.right.now c.args.l c.args.r
    c.args.len) c.requires.into c.div_ceil-end.ensures c.zip_into.ensures
