use Rattle.std.proofs.Common.{◌&&◌, ◌∙◌, ap}
use Rattle.std.specs.Int.{bit_not, w64}
use Rattle.vb_bits.specs.Digits.{has_bit}
use Rattle.vb_bits.proofs.DigitsLemmas.{has_bit-and, has_bit-bit_not}
use Rattle.vb_bits.proofs.operator.AndNotMerge.word.Goals as goal

pub returns : goal.returns
returns c = λ i h.
    has_bit-and c.args.left (bit_not w64 c.args.right) i ∙ ap
    (λ z. has_bit c.args.left i && z) (has_bit-bit_not w64 c.args.right i c.ranges.right.fits h)
