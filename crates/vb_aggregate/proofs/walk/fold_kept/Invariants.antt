use Rattle.std.proofs.Common.{◌-◌}
use Rattle.vb_view.specs.View.{bits_of}
use Rattle.vb_aggregate.proofs.WordsLemmas.{TakesWords}
use Rattle.vb_aggregate.proofs.walk.fold_kept.Given as goal

-- the state has the values that the words so far select
abbrev pub invariant-loop-t : goal.invariant-loop-t
invariant-loop-t g l =
    TakesWords g.W.WordFold.shows l.fn.start l.state (bits_of l.fn.mask) l.fn.values l.whole l.t

abbrev pub decreases-loop-t : goal.decreases-loop-t
decreases-loop-t g l = l.whole - l.t
