use Rattle.std.proofs.Common.{◌++◌, ap, ◌∙◌}
use Rattle.vb_bit_bytes.proofs.WindowsLemmas.{Writes-pushed_word}
use Rattle.vb_bit_bytes.proofs.lengthen.push_word_unchecked.Goals as goal

pub returns-clause-bits : goal.returns-clause-bits
returns-clause-bits g c =
    let old = c.args.bytes.now.list in
    Writes-pushed_word old c.push_slice_unchecked.new.bytes.list c.args.word
    (c.push_slice_unchecked.ensures.added.list ∙ ap (λ l. old ++ l) c.to_le_bytes.ensures)
