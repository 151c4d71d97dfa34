use Rattle.std.proofs.Common.{arith}
use Rattle.itoa.proofs.Decimal.{length_four}
use Rattle.vb_script.proofs.write.short_count.Goals as goal

pub returns-else-n-lt10000-clause-count : goal.returns-else-n-lt10000-clause-count
returns-else-n-lt10000-clause-count c =
    omega (
      arith,
      c.few_count-else-n-lt10000.ensures.count,
      length_four c.args.n (omega (arith, c.if-n-lt10000.false)) (omega (arith, c.requires)),
    )
