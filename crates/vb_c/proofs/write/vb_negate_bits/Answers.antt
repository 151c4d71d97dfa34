use Rattle.std.proofs.Common.{◌%◌, not, subst, ◌∙◌}
use Rattle.std.proofs.lemmas.List.{length-map}
use Rattle.vb_bits.specs.Bits.{bits, complement}
use Rattle.vb_bits.specs.Writes.{Writes}
use Rattle.vb_bits.proofs.BitsLemmas.{length-bits}
use Rattle.vb_c_core.proofs.PartLemmas.{part, bits_of_part, Writes_in_part}
use Rattle.vb_c.proofs.write.vb_negate_bits.Goals as goal

pub returns : goal.returns
returns c =
    let b = c.args.bytes.now in let o = c.args.offset in let n = c.args.len in
    let e = c.div_ceil-end.result in
    Writes_in_part b c.map_words.new.bytes o e n (complement (bits b o n))
    (length-map (bits b o n) not ∙ length-bits b o n) c.requires.window c.div_ceil-end.ensures
    (subst (λ l. Writes (part b o e) c.map_words.new.bytes (o % 8) (complement l))
    (bits_of_part b o n e c.div_ceil-end.ensures) c.map_words.ensures)
