use Rattle.std.proofs.Common.{subst, arith}
use Rattle.vb_bits.specs.Bits.{bits}
use Rattle.vb_bits.specs.Operators.{merged_by}
use Rattle.vb_bits.specs.Writes.{Writes}
use Rattle.vb_bits.proofs.OperatorsLemmas.{Writes_merged_none}
use Rattle.vb_bits.proofs.merge.merge_rest.Goals as goal

pub returns-then-len-gt0 : goal.returns-then-len-gt0
returns-then-len-gt0 g c =
    let b = c.args.dst.now in let d = c.args.d in
    subst (λ l. Writes b c.merge_in_eight.new.dst d
    (merged_by g.M.Merge.bit (bits b d c.args.len) l))
    c.read_in_eight.ensures c.merge_in_eight.ensures

pub returns-else-len-gt0 : goal.returns-else-len-gt0
returns-else-len-gt0 g c =
    Writes_merged_none g.M.Merge.bit c.args.dst.now c.args.src.now c.args.d c.args.s c.args.len
    (omega (arith, c.if-len-gt0.false))
