use Rattle.std.proofs.Common.{◌/◌, ◌^◌, arith}
use Rattle.vb_script.proofs.Lengths.{length_eight}
use Rattle.vb_script.proofs.write.digit_count.Goals as goal

pub returns-then-high-lt100000000 : goal.returns-then-high-lt100000000
returns-then-high-lt100000000 c = omega (
  arith,
  c.short_count-then-high-lt100000000.ensures.count,
  length_eight c.args.n c.if-n-lt100000000.false (omega (arith, c.ranges.n.fits)),
)

pub returns-else-high-lt100000000 : goal.returns-else-high-lt100000000
returns-else-high-lt100000000 c = omega (
  arith,
  c.short_count-else-high-lt100000000.ensures.count,
  length_eight c.args.n c.if-n-lt100000000.false (omega (arith, c.ranges.n.fits)),
  length_eight (c.args.n / 10 ^ 8) c.if-high-lt100000000.false
      (omega (arith, c.ranges.n.fits)),
)
