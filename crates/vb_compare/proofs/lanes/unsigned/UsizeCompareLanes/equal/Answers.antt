-- Written by tools/write-lists from tools/families/lanes.txt.
use mir.Syntax.{w64}
use Rattle.vb_compare.proofs.LaneLemmas.{unsigned_equal}
use Rattle.vb_compare.proofs.lanes.unsigned.UsizeCompareLanes.equal.Goals as goal

pub returns : goal.returns
returns c =
    unsigned_equal w64 c.args.left c.args.right c.requires.left c.requires.right
