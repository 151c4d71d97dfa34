-- Written by tools/write-lists from tools/families/operators.txt.
use Rattle.vb_bits.proofs.DigitsLemmas.{has_bit-or}
use Rattle.vb_bits.proofs.operator.OrMerge.word.Goals as goal

pub returns : goal.returns
returns c = λ i h. has_bit-or c.args.left c.args.right i
