use Rattle.std.proofs.Common.{[], ◌∷◌, ◌<◌, length, length-append, arith}
use Rattle.vb_aggregate.proofs.SumsLemmas.{sum_more}
use Rattle.vb_aggregate.proofs.sum.PartSumFold.add.Goals as goal

pub returns : goal.returns
returns g c xs so_far fits =
    let part = g.T.WideSummand.part_number in
    let few : length xs < 64 = omega (arith, length-append xs (c.args.value ∷ []), fits) in
    let sum = so_far (omega arith) in
    sum_more g.T.BitIndex.number g.T.WideSummand.reach xs c.args.value (part c.args.sum)
    (part c.plus.result) sum (c.plus.ensures.sum (length xs) few sum.within) c.plus.ensures.within
