-- Written by tools/write-lists from tools/families/lanes.txt.
use mir.Syntax.{w64}
use lib.Ieee.{lt}
use Rattle.vb_compare.proofs.EightLemmas.{digits_of_eight, clear_of_eight}
use Rattle.vb_compare.proofs.floats.eights.LessEight.eight.Goals as goal

pub returns-clause-digits : goal.returns-clause-digits
returns-clause-digits c =
    digits_of_eight w64 lt c.args.left c.args.right c.fits-left.0 c.fits-right.0

pub returns-clause-clear : goal.returns-clause-clear
returns-clause-clear c =
    clear_of_eight w64 lt c.args.left c.args.right c.fits-left.0 c.fits-right.0
