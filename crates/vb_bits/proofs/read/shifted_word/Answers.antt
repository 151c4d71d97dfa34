use Rattle.vb_bits.proofs.ReadLemmas.{digits_of_word, digits_overlapped}
use Rattle.vb_bits.proofs.read.shifted_word.Goals as goal

pub returns : goal.returns
returns c =
    digits_overlapped c.args.bytes.now c.args.first c.args.shift c.word_at.result c.word_at-2.result
    (digits_of_word _ _ _ c.word_at.ensures)
    (digits_of_word _ _ _ c.word_at-2.ensures) c.word_at.type_inv c.requires.in_byte
