-- Written by tools/write-lists from tools/families/lanes.txt.
use Rattle.std.proofs.Common.{◌∙◌}
use lib.Ieee.{le}
use Rattle.vb_compare.proofs.TruthLemmas.{flipped}
use Rattle.vb_compare.proofs.floats.test.IsGreaterOrEqualTest.word.Goals as goal

pub returns : goal.returns
returns g c =
    let floats = g.T.FloatLanes.floats in
    c.less_or_equal.ensures ∙ flipped le (floats c.args.right) (floats c.args.left)
