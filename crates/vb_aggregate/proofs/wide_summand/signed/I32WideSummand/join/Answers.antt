-- Written by tools/write-lists from tools/families/summands.txt.
use Rattle.std.proofs.Common.{◌*◌, ◌^◌, ◌∙◌, arith}
use Rattle.std.proofs.lemmas.Int.{to_z-of_z}
use Rattle.std.specs.Int.{w64, w128}
use Rattle.vb_aggregate.proofs.TypesLemmas.{fits_near, added_signed}
use Rattle.vb_aggregate.proofs.wide_summand.signed.I32WideSummand.join.Goals as goal

pub returns : goal.returns
returns c j k few near close =
    let fits = fits_near w128 (k * 2 ^ 31) c.args.part close (omega arith) in
    added_signed w128 (j * 2 ^ 31) (k * 2 ^ 31) c.args.sum
    c.from.result c.args.part
    (c.from.ensures ∙ to_z-of_z w64 c.args.part c.ranges.part) c.ranges.sum fits near close
    (omega arith)
