use Rattle.vb_bits.proofs.WritesLemmas.{Writes_not_word}
use Rattle.vb_bits.proofs.map.negate_word.Goals as goal

pub returns : goal.returns
returns c = Writes_not_word c.args.bytes.now _ c.args.at c.word_at-word.result
    c.word_at-word.type_inv c.word_at-word.ensures c.write_word.ensures
