use Rattle.std.proofs.Common.{[], ◌++◌, ◌+◌, ◌<◌, ◌≤◌, ◌^◌, length, sym, subst, arith}
use Rattle.std.proofs.Common.{length-append}
use Rattle.std.proofs.lemmas.List.{append-nil}
use Rattle.vb_aggregate.specs.Sums.{IsSum}
use Rattle.vb_bits.specs.Digits.{digits}
use Rattle.vb_bits.specs.Kept.{kept_by}
use Rattle.vb_aggregate.proofs.OnesLemmas.{kept_zero, kept_few}
use Rattle.vb_aggregate.proofs.SumsLemmas.{sum_none, sum_join}
use Rattle.vb_aggregate.proofs.sum.SumWordFold.add_word.Goals as goal

pub returns-then-keep-eq0 : goal.returns-then-keep-eq0
returns-then-keep-eq0 g c xs so_far =
    let number = g.T.BitIndex.number in
    let reach = g.T.WideSummand.reach in
    let sum = g.T.WideSummand.total_number c.args.sum in
    let nothing = kept_zero c.args.keep c.args.values.now c.if-keep-eq0.true c.requires.clear in
    subst (λ l. length (xs ++ l) < 2 ^ 64 → IsSum number reach (xs ++ l) sum) (sym nothing)
    (subst (λ l. length l < 2 ^ 64 → IsSum number reach l sum) (sym (append-nil xs)) so_far)

pub returns : goal.returns
returns g c xs so_far fits =
    let number = g.T.BitIndex.number in
    let reach = g.T.WideSummand.reach in
    let total = g.T.WideSummand.total_number in
    let part = g.T.WideSummand.part_number in
    let values = c.args.values.now in
    let ys = kept_by (digits c.args.keep 0 (length values)) values in
    let few : length ys ≤ length values = kept_few c.args.keep values c.requires.clear in
    let both : length xs + length ys < 2 ^ 64 = omega (arith, length-append xs ys, fits) in
    let left = so_far (omega arith) in
    let right = c.fold_word.ensures []
    (λ _. sum_none number reach (part c.no_part.result) c.no_part.ensures)
    (omega (arith, few, c.requires.few)) in
    sum_join number reach xs ys (total c.args.sum) (part c.fold_word.result)
    (total c.join.result) left right
    (c.join.ensures (length xs) (length ys) both left.within right.within)
