-- Written by tools/write-lists from tools/families/summands.txt.
use Rattle.std.proofs.Common.{◌*◌, ◌^◌, refl, arith}
use Rattle.vb_aggregate.proofs.TypesLemmas.{added_unsigned}
use Rattle.vb_aggregate.proofs.wide_summand.unsigned.UsizeWideSummand.join.Goals as goal

pub returns : goal.returns
returns c j k few near close =
    added_unsigned (2 ^ 128) (j * 2 ^ 64) (k * 2 ^ 64) c.args.sum
    c.args.part c.args.part refl near close (omega arith)
