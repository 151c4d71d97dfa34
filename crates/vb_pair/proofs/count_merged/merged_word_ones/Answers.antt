use Rattle.std.proofs.Common.{◌≡◌, ◌+◌, ◌*◌, ◌/◌, ◌%◌, ap, arith, ◌∙◌}
use Rattle.vb_bits.specs.Bits.{bits}
use Rattle.vb_pair.proofs.MergedLemmas.{ones_of_merged}
use Rattle.vb_pair.proofs.count_merged.merged_word_ones.Goals as goal

pub returns-clause-value : goal.returns-clause-value
returns-clause-value g c =
    let a = c.args.left.now in let b = c.args.right.now in
    let to : 8 * (c.args.l / 8) + c.args.l % 8 ≡ c.args.l = omega arith in
    let from : 8 * (c.args.r / 8) + c.args.r % 8 ≡ c.args.r = omega arith in
    c.digit_ones.ensures.value ∙ ones_of_merged g.M.Merge.bit a b _ _ 64 _ _ _ (omega arith)
    (c.full_word-left.ensures ∙ ap (λ o. bits a o 64) to)
    (c.full_word-right.ensures ∙ ap (λ o. bits b o 64) from) c.word.ensures
