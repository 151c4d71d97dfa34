use Rattle.vb_aggregate.proofs.OnesLemmas.{TakesOnes}
use Rattle.vb_aggregate.proofs.fold.fold_ones.Given as goal

-- the state has the values at the ones of `keep` that are no longer in `left`
abbrev pub invariant-loop-left : goal.invariant-loop-left
invariant-loop-left g l =
    TakesOnes g.F.Fold.shows l.fn.start l.state l.fn.values l.fn.keep l.left

abbrev pub decreases-loop-left : goal.decreases-loop-left
decreases-loop-left g l = l.left
