-- Written by tools/write-lists from tools/families/lanes.txt.
use mir.Syntax.{w16}
use Rattle.vb_compare.proofs.LaneLemmas.{unsigned_equal}
use Rattle.vb_compare.proofs.lanes.unsigned.U16CompareLanes.equal.Goals as goal

pub returns : goal.returns
returns c =
    unsigned_equal w16 c.args.left c.args.right c.requires.left c.requires.right
