-- Written by tools/write-lists from tools/families/lanes.txt.
use mir.Syntax.{w64}
use Rattle.vb_compare.proofs.LaneLemmas.{repeated}
use Rattle.vb_compare.proofs.lanes.signed.I64CompareLanes.splat.Goals as goal

pub returns-clause-block : goal.returns-clause-block
returns-clause-block c = repeated w64 c.args.value c.ranges.value
