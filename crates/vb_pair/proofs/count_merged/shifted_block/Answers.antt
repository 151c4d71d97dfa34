use Rattle.std.proofs.Common.{List, ℕ, ap, arith, ◌∙◌, ◌*◌}
use Rattle.vb_bits.specs.Bits.{bits, count}
use Rattle.vb_bits.specs.Digits.{lane_bits}
use Rattle.vb_bits.specs.Operators.{merged_by}
use Rattle.vb_pair.proofs.MergedLemmas.{count-lane_bits}
use Rattle.vb_pair.proofs.count_merged.shifted_block.Goals as goal

pub returns : goal.returns
returns g c =
    let f = g.M.Merge.bit in
    let a : List ℕ = c.args.left.now in
    let other : List ℕ = c.shifted_words.result in
    let left = ap (λ x. merged_by f x (lane_bits other)) c.words_at.ensures.digits in
    let right = ap (merged_by f (bits a (8 * c.args.l) 256)) c.shifted_words.ensures.digits in
    omega (
      arith,
      c.of_four.ensures,
      c.digit_ones.ensures.value,
      c.digit_ones-2.ensures.value,
      c.digit_ones-3.ensures.value,
      c.digit_ones-4.ensures.value,
      count-lane_bits c.words.result,
      ap count (c.words.ensures.digits ∙ left ∙ right),
    )
