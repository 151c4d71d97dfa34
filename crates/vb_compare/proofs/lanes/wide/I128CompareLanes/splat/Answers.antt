use Rattle.vb_compare.proofs.LaneLemmas.{repeated}
use mir.Syntax.{w128}
use Rattle.vb_compare.proofs.lanes.wide.I128CompareLanes.splat.Goals as goal

pub returns-clause-block : goal.returns-clause-block
returns-clause-block c = repeated w128 c.args.value c.ranges.value
