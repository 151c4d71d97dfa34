use Rattle.std.proofs.Common.{◌*◌, get_or, arith}
use Rattle.vb_bits.proofs.OperatorsLemmas.{Writes_merged_number}
use Rattle.vb_bits.proofs.ReadLemmas.{digits_front, digits_of_byte}
use Rattle.vb_bits.proofs.few.merge_in_byte.Goals as goal

pub returns : goal.returns
returns g c =
    let b = c.args.dst.now in let at = c.args.at in let n = c.args.count in
    Writes_merged_number g.M.Merge.bit b c.write_in_byte.new.bytes (8 * at) n c.word.result
    c.from-left.result c.args.right (omega (arith, c.requires.few))
    (rw c.from-left.ensures
    (digits_front b (get_or b at 0) (8 * at) 8 n (digits_of_byte b at) c.requires.few))
    c.word.ensures c.write_in_byte.ensures
