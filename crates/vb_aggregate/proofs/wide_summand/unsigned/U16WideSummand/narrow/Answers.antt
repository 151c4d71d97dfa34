-- Written by tools/write-lists from tools/families/summands.txt.
use Rattle.std.proofs.Common.{◌^◌, ◌<◌, pos, sym, subst}
use Rattle.vb_aggregate.specs.Sums.{IsValueOf}
use Rattle.vb_aggregate.proofs.TypesLemmas.{narrowed_unsigned}
use Rattle.vb_aggregate.proofs.wide_summand.unsigned.U16WideSummand.narrow.Goals as goal

pub returns : goal.returns
returns c =
    subst (IsValueOf (λ x. x < 2 ^ 16) pos (pos c.args.sum)) (sym c.ok.ensures.value)
    (narrowed_unsigned (2 ^ 16) c.args.sum c.try_from.result c.try_from.ensures)
