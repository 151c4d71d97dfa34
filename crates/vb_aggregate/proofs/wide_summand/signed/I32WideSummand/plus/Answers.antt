-- Written by tools/write-lists from tools/families/summands.txt.
use Rattle.std.proofs.Common.{◌*◌, ◌^◌, ◌∙◌, arith}
use Rattle.std.proofs.lemmas.Int.{to_z-of_z}
use Rattle.std.specs.Int.{w32, w64}
use Rattle.vb_aggregate.proofs.TypesLemmas.{near_signed, fits_near, added_signed}
use Rattle.vb_aggregate.proofs.wide_summand.signed.I32WideSummand.plus.Goals as goal

pub returns-clause-sum : goal.returns-clause-sum
returns-clause-sum c k few near =
    let value = near_signed w32 c.args.value c.ranges.value in
    let read = to_z-of_z w32 c.args.value c.ranges.value in
    added_signed w64 (k * 2 ^ 31) (2 ^ 31) c.args.sum
    c.from.result c.args.value (c.from.ensures ∙ read) c.ranges.sum
    (fits_near w64 (2 ^ 31) c.args.value value (omega arith)) near value
    (omega arith)

pub returns-clause-within : goal.returns-clause-within
returns-clause-within c = near_signed w32 c.args.value c.ranges.value
