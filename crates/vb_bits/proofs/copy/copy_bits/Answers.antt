use Rattle.std.proofs.Common.{◌∙◌, sym, subst}
use Rattle.vb_bits.specs.Bits.{bits}
use Rattle.vb_bits.specs.Writes.{Writes}
use Rattle.vb_bits.proofs.BitsLemmas.{length-bits}
use Rattle.vb_bits.proofs.OperatorsLemmas.{merged_right}
use Rattle.vb_bits.proofs.copy.copy_bits.Goals as goal

pub returns : goal.returns
returns c =
    let b = c.args.dst.now in let t = c.args.src.now in let n = c.args.len in
    subst (Writes b c.merge_bits.new.dst c.args.d)
    (merged_right (bits b c.args.d n)
    (bits t c.args.s n) (length-bits b c.args.d n ∙ sym (length-bits t c.args.s n)))
    c.merge_bits.ensures
