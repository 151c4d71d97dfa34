use Rattle.std.proofs.Common.{sym, ap, ◌∙◌}
use Rattle.vb_aggregate.proofs.FloatsLemmas.{float_sum-push}
use Rattle.vb_aggregate.proofs.float_sum.FloatSumFold.add.Goals as goal
use lib.Ieee.{add}

pub returns : goal.returns
returns g c xs so_far =
    let float = g.T.FloatSummand.float in
    let format = g.T.FloatSummand.format in
    c.plus.ensures ∙ ap (λ s. add format s (float c.args.value)) so_far
    ∙ sym (float_sum-push format float xs c.args.value)
