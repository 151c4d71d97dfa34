use Rattle.std.proofs.Common.{◌%◌, subst}
use Rattle.vb_bits.specs.Bits.{bits}
use Rattle.vb_bits.specs.Operators.{bit_op, combined_by}
use Rattle.vb_bits.specs.Writes.{Writes}
use Rattle.vb_bits.proofs.OperatorsLemmas.{length-merged_bits}
use Rattle.vb_c_core.proofs.PartLemmas.{part, bits_of_part, Writes_in_part}
use Rattle.vb_c.proofs.combine.combine.Goals as goal

pub returns : goal.returns
returns c =
    let b = c.args.dst.now in let s = c.args.src.now in let d = c.args.d in
    let n = c.args.len in let e = c.div_ceil-end.result in let op = c.args.op in
    Writes_in_part b c.zip_words.new.dst d e n (combined_by op (bits b d n) (bits s c.args.s n))
    (length-merged_bits (bit_op op) b s d c.args.s n) c.requires.one c.div_ceil-end.ensures
    (subst (λ l. Writes (part b d e) c.zip_words.new.dst (d % 8)
    (combined_by op l (bits s c.args.s n))) (bits_of_part b d n e c.div_ceil-end.ensures)
    c.zip_words.ensures)
