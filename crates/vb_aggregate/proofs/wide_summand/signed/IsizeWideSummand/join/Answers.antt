-- Written by tools/write-lists from tools/families/summands.txt.
use Rattle.std.proofs.Common.{◌*◌, ◌^◌, refl, arith}
use Rattle.std.specs.Int.{w128}
use Rattle.vb_aggregate.proofs.TypesLemmas.{fits_near, added_signed}
use Rattle.vb_aggregate.proofs.wide_summand.signed.IsizeWideSummand.join.Goals as goal

pub returns : goal.returns
returns c j k few near close =
    let fits = fits_near w128 (k * 2 ^ 63) c.args.part close (omega arith) in
    added_signed w128 (j * 2 ^ 63) (k * 2 ^ 63) c.args.sum
    c.args.part c.args.part refl c.ranges.sum fits near close (omega arith)
