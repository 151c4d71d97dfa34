use Rattle.std.proofs.Common.{sym}
use Rattle.vb_bits.proofs.DigitsLemmas.{count-digits_below}
use Rattle.vb_count.proofs.word.digit_ones.Goals as goal

pub returns-clause-value : goal.returns-clause-value
returns-clause-value c = sym (count-digits_below c.args.word 64 c.ranges.word.fits)
