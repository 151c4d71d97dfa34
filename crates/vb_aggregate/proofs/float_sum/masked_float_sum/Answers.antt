use Rattle.std.proofs.Common.{[]}
use Rattle.vb_aggregate.proofs.float_sum.masked_float_sum.Goals as goal

pub returns : goal.returns
returns g c = c.fold_kept.ensures [] c.zero.ensures
