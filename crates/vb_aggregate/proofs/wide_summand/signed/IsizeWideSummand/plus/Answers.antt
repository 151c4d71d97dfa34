-- Written by tools/write-lists from tools/families/summands.txt.
use Rattle.std.proofs.Common.{◌*◌, ◌^◌, arith}
use Rattle.std.proofs.lemmas.Int.{to_z-of_z}
use Rattle.std.specs.Int.{w64, w128}
use mir.Val.{to_z, of_z}
use Rattle.vb_aggregate.proofs.TypesLemmas.{near_signed, fits_near, added_signed}
use Rattle.vb_aggregate.proofs.wide_summand.signed.IsizeWideSummand.plus.Goals as goal

pub returns-clause-sum : goal.returns-clause-sum
returns-clause-sum c k few near =
    let value = near_signed w64 c.args.value c.ranges.value in
    let read = to_z-of_z w64 c.args.value c.ranges.value in
    added_signed w128 (k * 2 ^ 63) (2 ^ 63) c.args.sum
    (to_z w64 (of_z w64 c.args.value)) c.args.value read c.ranges.sum
    (fits_near w128 (2 ^ 63) c.args.value value (omega arith)) near value
    (omega arith)

pub returns-clause-within : goal.returns-clause-within
returns-clause-within c = near_signed w64 c.args.value c.ranges.value
