use Rattle.std.proofs.Common.{[], sym, ◌∙◌}
use Rattle.vb_aggregate.proofs.sum.masked_wrapping_sum.Goals as goal

pub returns : goal.returns
returns g c =
    c.fold_few_or_kept.ensures [] (c.zero.ensures.value ∙ sym g.met.T.Summand.wraps_zero)
