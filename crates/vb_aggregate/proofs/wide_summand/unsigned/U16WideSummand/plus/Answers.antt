-- Written by tools/write-lists from tools/families/summands.txt.
use Rattle.std.proofs.Common.{◌*◌, ◌^◌, arith}
use Rattle.vb_aggregate.proofs.TypesLemmas.{near_unsigned, added_unsigned}
use Rattle.vb_aggregate.proofs.wide_summand.unsigned.U16WideSummand.plus.Goals as goal

pub returns-clause-sum : goal.returns-clause-sum
returns-clause-sum c k few near =
    added_unsigned (2 ^ 64) (k * 2 ^ 16) (2 ^ 16) c.args.sum
    c.from.result c.args.value c.from.ensures near
    (near_unsigned (2 ^ 16) c.args.value c.ranges.value.fits) (omega arith)

pub returns-clause-within : goal.returns-clause-within
returns-clause-within c = near_unsigned (2 ^ 16) c.args.value c.ranges.value.fits
