-- Written by tools/write-lists from tools/families/operators.txt.
use Rattle.std.proofs.Common.{◌&&◌, sym, ◌∙◌}
use Rattle.std.proofs.lemmas.Simd.{length-zip2}
use Rattle.std.specs.Prelude.{bit_and}
use Rattle.vb_bits.proofs.DigitsLemmas.{has_bit-and}
use Rattle.vb_bits.proofs.LanesLemmas.{lane_bits-merged_by}
use Rattle.vb_bits.proofs.operator.AndMerge.words.Goals as goal

pub returns-clause-len : goal.returns-clause-len
returns-clause-len c = length-zip2 bit_and c.args.left c.args.right
    (c.requires.left ∙ sym c.requires.right) ∙ c.requires.left

pub returns-clause-digits : goal.returns-clause-digits
returns-clause-digits c = lane_bits-merged_by (λ a b. a && b) bit_and c.args.left c.args.right
    c.requires.left c.requires.right (λ v w i h. has_bit-and v w i)
