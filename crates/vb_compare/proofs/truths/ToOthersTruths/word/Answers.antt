use Rattle.vb_compare.proofs.TruthLemmas.{to_others}
use Rattle.vb_compare.proofs.truths.ToOthersTruths.word.Goals as goal

pub returns : goal.returns
returns g c =
    let me = c.args.self.now in let numbers = g.T.CompareLanes.numbers in
    to_others (g.C.Test.holds) (g.T.BitIndex.number) c.word.result c.args.k me.values.now
    me.others.now (numbers c.load.result) (numbers c.load-2.result) c.load.ensures.numbers
    c.load-2.ensures.numbers c.word.ensures
