use Rattle.std.proofs.Common.{◌*◌, ◌≤◌}
use Rattle.vb_select.proofs.select.Stretch.block.Given as goal

abbrev pub invariant-loop-unsure : goal.invariant-loop-unsure
invariant-loop-unsure l = 2 * l.unsure ≤ l.self.chunks

abbrev pub decreases-loop-unsure : goal.decreases-loop-unsure
decreases-loop-unsure l = l.unsure
