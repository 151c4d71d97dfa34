use Rattle.vb_aggregate.proofs.SumsLemmas.{wrapped_more}
use Rattle.vb_aggregate.proofs.sum.WrappingSumFold.add.Goals as goal

pub returns : goal.returns
returns g c xs so_far =
    wrapped_more g.T.BitIndex.number g.T.Summand.wrapped g.met.T.Summand.wraps_on xs c.args.value
    c.args.sum c.wrapping_plus.result c.wrapping_plus.ensures so_far
