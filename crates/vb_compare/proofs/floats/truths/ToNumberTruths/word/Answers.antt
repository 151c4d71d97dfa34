use Rattle.std.proofs.Common.{◌∙◌, ap}
use lib.Lanes.{zip2}
use Rattle.vb_compare.proofs.TruthLemmas.{to_number}
use Rattle.vb_compare.proofs.floats.truths.ToNumberTruths.word.Goals as goal

pub returns : goal.returns
returns g c =
    let s = g.C.Test.holds in let f = g.T.FloatLanes.float in let me = c.args.self.now in
    let floats = g.T.FloatLanes.floats in
    to_number s f (f me.number) me.values.now c.word.result c.args.k
    (floats c.load.result) c.requires c.load.ensures
    (c.word.ensures ∙ ap (zip2 s (floats c.load.result)) c.splat.ensures)
