-- Written by tools/write-lists from tools/families/lanes.txt.
use mir.Syntax.{w32}
use lib.Ieee.{eq}
use Rattle.vb_compare.proofs.LaneLemmas.{digits_compared}
use Rattle.vb_compare.proofs.floats.lanes.F32FloatLanes.equal.Goals as goal

pub returns : goal.returns
returns c = digits_compared w32 eq c.args.left c.args.right c.fits-left.0 c.fits-right.0
