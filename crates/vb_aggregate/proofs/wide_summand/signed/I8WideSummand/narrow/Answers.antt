-- Written by tools/write-lists from tools/families/summands.txt.
use Rattle.std.proofs.Common.{FitsSigned, sym, subst}
use Rattle.std.proofs.lemmas.Int.{to_z-of_z}
use Rattle.std.specs.Int.{w8, w128}
use Rattle.std.specs.Result.{OkIff}
use Rattle.vb_aggregate.specs.Sums.{IsValueOf}
use Rattle.vb_aggregate.proofs.TypesLemmas.{narrowed_signed}
use Rattle.vb_aggregate.proofs.wide_summand.signed.I8WideSummand.narrow.Goals as goal

pub returns : goal.returns
returns c =
    subst (IsValueOf (FitsSigned w8) (λ x. x) c.args.sum) (sym c.ok.ensures.value)
    (narrowed_signed w8 c.args.sum c.try_from.result
    (subst (λ z. OkIff c.try_from.result (FitsSigned w8 z) z)
    (to_z-of_z w128 c.args.sum c.ranges.sum) c.try_from.ensures))
