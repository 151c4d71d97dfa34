use Rattle.std.proofs.Common.{arith}
use Rattle.vb_bits.proofs.DigitsLemmas.{length-digits}
use Rattle.vb_bits.proofs.OperatorsLemmas.{Writes_right}
use Rattle.vb_bits.proofs.WritesLemmas.{Writes_none}
use Rattle.vb_bits.proofs.copy.write_digits.Goals as goal

pub returns-then-count-gt0 : goal.returns-then-count-gt0
returns-then-count-gt0 c =
    Writes_right c.args.dst.now c.merge_digits.new.dst c.args.at c.args.count c.args.word
    c.merge_digits.ensures

pub returns-else-count-gt0 : goal.returns-else-count-gt0
returns-else-count-gt0 c =
    Writes_none _ _ _
    (omega (arith, c.if-count-gt0.false, length-digits c.args.word 0 c.args.count))
