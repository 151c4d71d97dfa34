use Rattle.std.proofs.Common.{◌&&◌, not, cond, sym, ap, ◌∙◌}
use Rattle.std.proofs.lemmas.Simd.{length-zip2}
use Rattle.std.specs.Prelude.{bit_and, bit_xor}
use Rattle.std.specs.Simd.Lanes.{zip2}
use Rattle.vb_bits.specs.Digits.{lane_bits}
use Rattle.vb_bits.specs.Operators.{merged_by}
use Rattle.vb_bits.proofs.DigitsLemmas.{has_bit-and, has_bit-xor}
use Rattle.vb_bits.proofs.LanesLemmas.{length-lane_bits, lane_bits-merged_by, merged_and_not}
use Rattle.vb_bits.proofs.operator.AndNotMerge.words.Goals as goal

pub returns-clause-len : goal.returns-clause-len
returns-clause-len c =
    let both = length-zip2 bit_and c.args.left c.args.right
    (c.requires.left ∙ sym c.requires.right) in
    length-zip2 bit_xor c.args.left (zip2 bit_and c.args.left c.args.right) (sym both)
    ∙ c.requires.left

pub returns-clause-digits : goal.returns-clause-digits
returns-clause-digits c =
    let l = c.args.left in let r = c.args.right in let m = zip2 bit_and l r in
    let both = length-zip2 bit_and l r (c.requires.left ∙ sym c.requires.right) ∙ c.requires.left in
    lane_bits-merged_by (λ a b. cond a (not b) b) bit_xor l m c.requires.left both
    (λ v w i h. has_bit-xor v w i)
    ∙ ap (merged_by (λ a b. cond a (not b) b) (lane_bits l))
    (lane_bits-merged_by (λ a b. a && b) bit_and l r c.requires.left c.requires.right
    (λ v w i h. has_bit-and v w i))
    ∙ merged_and_not (lane_bits l) (lane_bits r) (length-lane_bits l ∙ sym (length-lane_bits r))
