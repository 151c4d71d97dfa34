use Rattle.std.proofs.Common.{int_lt, ◌∙◌}
use Rattle.vb_compare.proofs.TruthLemmas.{flipped}
use Rattle.vb_compare.proofs.test.IsGreaterTest.word.Goals as goal

pub returns : goal.returns
returns g c =
    let numbers = g.T.CompareLanes.numbers in
    c.less.ensures ∙ flipped int_lt (numbers c.args.right) (numbers c.args.left)
