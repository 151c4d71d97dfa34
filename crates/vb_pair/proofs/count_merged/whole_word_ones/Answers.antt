use Rattle.std.proofs.Common.{arith, ◌∙◌}
use Rattle.vb_bits.proofs.ReadLemmas.{digits_of_word}
use Rattle.vb_pair.proofs.MergedLemmas.{ones_of_merged}
use Rattle.vb_pair.proofs.count_merged.whole_word_ones.Goals as goal

pub returns-clause-value : goal.returns-clause-value
returns-clause-value g c =
    let a = c.args.left.now in let b = c.args.right.now in
    c.digit_ones.ensures.value ∙ ones_of_merged g.M.Merge.bit a b _ _ 64 _ _ _ (omega arith)
    (digits_of_word a c.word_at.result c.args.l c.word_at.ensures)
    (digits_of_word b c.word_at-2.result c.args.r c.word_at-2.ensures) c.word.ensures
