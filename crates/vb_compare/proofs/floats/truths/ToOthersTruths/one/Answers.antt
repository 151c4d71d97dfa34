use Rattle.vb_compare.proofs.TruthLemmas.{one_of_others}
use Rattle.vb_compare.proofs.floats.truths.ToOthersTruths.one.Goals as goal

pub returns : goal.returns
returns g c =
    let me = c.args.self.now in
    one_of_others (g.C.Test.holds) (g.T.FloatLanes.float) me.values.now me.others.now c.args.k
    c.index-self-k.result c.index-self-k-2.result c.one.result me.same_len c.requires
    c.one.ensures
