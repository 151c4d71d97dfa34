-- Written by tools/write-lists from tools/families/summands.txt.
use Rattle.std.proofs.Common.{◌*◌, ◌^◌, arith}
use Rattle.vb_aggregate.proofs.TypesLemmas.{added_unsigned}
use Rattle.vb_aggregate.proofs.wide_summand.unsigned.U8WideSummand.join.Goals as goal

pub returns : goal.returns
returns c j k few near close =
    added_unsigned (2 ^ 128) (j * 2 ^ 8) (k * 2 ^ 8) c.args.sum
    c.from.result c.args.part c.from.ensures near close (omega arith)
