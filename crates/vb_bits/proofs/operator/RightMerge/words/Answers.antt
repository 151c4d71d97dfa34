use Rattle.std.proofs.Common.{sym, ◌∙◌}
use Rattle.vb_bits.specs.Digits.{lane_bits}
use Rattle.vb_bits.proofs.LanesLemmas.{length-lane_bits}
use Rattle.vb_bits.proofs.OperatorsLemmas.{merged_right}
use Rattle.vb_bits.proofs.operator.RightMerge.words.Goals as goal

pub returns-clause-digits : goal.returns-clause-digits
returns-clause-digits c = sym (merged_right (lane_bits c.args.left) (lane_bits c.args.right)
    (length-lane_bits c.args.left ∙ sym (length-lane_bits c.args.right)))
