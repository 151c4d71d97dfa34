-- Written by tools/write-lists from tools/families/lanes.txt.
use Rattle.std.proofs.Common.{◌∙◌}
use lib.Ieee.{lt}
use Rattle.vb_compare.proofs.TruthLemmas.{flipped}
use Rattle.vb_compare.proofs.floats.test.IsGreaterTest.word.Goals as goal

pub returns : goal.returns
returns g c =
    let floats = g.T.FloatLanes.floats in
    c.less.ensures ∙ flipped lt (floats c.args.right) (floats c.args.left)
