use Rattle.std.proofs.Common.{◌*◌}
use Rattle.vb_bits.proofs.ReadLemmas.{digits_of_word}
use Rattle.vb_bits.proofs.WordLemmas.{Writes_digits}
use Rattle.vb_bits.proofs.write.write_in_word.Goals as goal

pub returns : goal.returns
returns c =
    Writes_digits c.args.bytes.now c.write_word.new.bytes (8 * c.args.first) c.args.from
    c.args.count 64 c.word_at-old.result c.with_digits.result c.args.word c.requires.in_word
    (digits_of_word _ _ _ c.word_at-old.ensures) c.with_digits.ensures.inside
    c.with_digits.ensures.others c.write_word.ensures
