use Rattle.std.proofs.Common.{◌∙◌, ap}
use lib.Lanes.{zip2}
use Rattle.vb_compare.proofs.TruthLemmas.{to_number}
use Rattle.vb_compare.proofs.truths.ToNumberTruths.word.Goals as goal

pub returns : goal.returns
returns g c =
    let s = g.C.Test.holds in let f = g.T.BitIndex.number in let me = c.args.self.now in
    let numbers = g.T.CompareLanes.numbers in
    to_number s f (f me.number) me.values.now c.word.result c.args.k
    (numbers c.load.result) c.requires c.load.ensures.numbers
    (c.word.ensures ∙ ap (zip2 s (numbers c.load.result)) c.splat.ensures.numbers)
