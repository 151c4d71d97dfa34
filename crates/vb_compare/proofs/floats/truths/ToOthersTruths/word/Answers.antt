use Rattle.vb_compare.proofs.TruthLemmas.{to_others}
use Rattle.vb_compare.proofs.floats.truths.ToOthersTruths.word.Goals as goal

pub returns : goal.returns
returns g c =
    let me = c.args.self.now in let floats = g.T.FloatLanes.floats in
    to_others (g.C.Test.holds) (g.T.FloatLanes.float) c.word.result c.args.k me.values.now
    me.others.now (floats c.load.result) (floats c.load-2.result) c.load.ensures c.load-2.ensures
    c.word.ensures
