use Rattle.std.proofs.Common.{◌*◌}
use Rattle.vb_pair.proofs.BesideLemmas.{UnitsCounted}
use Rattle.vb_pair.proofs.count_beside.count_units.Given as goal

abbrev pub invariant-loop-k : goal.invariant-loop-k
invariant-loop-k g l =
    UnitsCounted g.M.Merge.bit g.U.Unit.SIZE (8 * l.l) l.r l.k l.ones l.held
    (g.L.Glance.seen l.initial.left) (g.L.Glance.seen l.left)
    (g.R.Glance.seen l.initial.right) (g.R.Glance.seen l.right)
