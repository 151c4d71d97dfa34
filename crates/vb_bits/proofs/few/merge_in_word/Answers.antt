use Rattle.std.proofs.Common.{◌+◌, ◌*◌, ◌/◌, ◌^◌, refl, arith}
use Rattle.vb_bits.proofs.OperatorsLemmas.{Writes_merged_number}
use Rattle.vb_bits.proofs.ReadLemmas.{digits_of_word, digits_inside}
use Rattle.vb_bits.proofs.few.merge_in_word.Goals as goal

pub returns : goal.returns
returns g c =
    let b = c.args.dst.now in let f = c.args.first in let s = c.args.from in
    let n = c.args.count in let old = c.word_at.result in
    Writes_merged_number g.M.Merge.bit b c.write_in_word.new.bytes (8 * f + s) n c.word.result
    (old / 2 ^ s) c.args.right (omega (arith, c.requires.in_word))
    (digits_inside b old (8 * f) 64 s n (8 * f + s) (digits_of_word b old f c.word_at.ensures) refl
    c.requires.in_word)
    c.word.ensures c.write_in_word.ensures
