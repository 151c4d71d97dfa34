use Rattle.std.proofs.Common.{arith}
use Rattle.vb_bits.proofs.DigitsLemmas.{count-digits_below}
use Rattle.vb_filter.proofs.digits.pack_digits.Goals as goal

pub pack_steps-requires-clause-enough : goal.pack_steps-requires-clause-enough
pack_steps-requires-clause-enough c =
    omega (arith, count-digits_below c.args.mask 64 (omega arith), c.if-ones-le-STEP_ONES.true)
