use Rattle.vb_filter.proofs.SpreadDigits.{SpreadSoFar}
use Rattle.vb_filter.proofs.spread.spread_ones.Given as goal

-- the bits so far, and those at the ones that are left
abbrev pub invariant-loop-left : goal.invariant-loop-left
invariant-loop-left l = record { digits : SpreadSoFar l.spread l.left l.source l.mask l.word }

abbrev pub decreases-loop-left : goal.decreases-loop-left
decreases-loop-left l = l.left
