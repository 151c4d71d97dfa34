use Rattle.std.proofs.Common.{ap, arith}
use Rattle.vb_bits.specs.Bits.{count}
use Rattle.vb_bits.proofs.DigitsLemmas.{count-digits_below}
use Rattle.vb_count.proofs.count.count_few.Goals as goal

pub returns : goal.returns
returns c =
    omega (
      arith,
      count-digits_below c.read_short.result c.args.len c.read_short.ensures.clear,
      ap count c.read_short.ensures.digits,
    )
