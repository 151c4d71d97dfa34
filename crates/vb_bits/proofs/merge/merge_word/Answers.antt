use Rattle.std.proofs.Common.{◌≡◌, ◌+◌, ◌*◌, ◌/◌, ◌%◌, ◌∙◌, ap, arith}
use Rattle.vb_bits.specs.Bits.{bits}
use Rattle.vb_bits.proofs.ReadLemmas.{digits_of_word}
use Rattle.vb_bits.proofs.OperatorsLemmas.{Writes_merged_digits}
use Rattle.vb_bits.proofs.merge.merge_word.Goals as goal

pub returns : goal.returns
returns g c =
    let b = c.args.dst.now in let t = c.args.src.now in
    let to : 8 * (c.args.d / 8) ≡ c.args.d = omega (arith, c.requires.whole) in
    let from : 8 * (c.args.s / 8) + c.args.s % 8 ≡ c.args.s = omega arith in
    let left = digits_of_word b c.word_at-left.result (c.args.d / 8) c.word_at-left.ensures
    ∙ ap (λ o. bits b o 64) to in
    let right = c.full_word-right.ensures ∙ ap (λ o. bits t o 64) from in
    Writes_merged_digits g.M.Merge.bit b _ t _ _ _ 64 _ _ _
    (omega arith) left right c.word.ensures c.write_word.ensures to
