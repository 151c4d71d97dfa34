use Rattle.std.proofs.Common.{◌-◌}
use Rattle.vb_view.specs.View.{bits_of}
use Rattle.vb_aggregate.proofs.WordsLemmas.{PassesEmpty}
use Rattle.vb_aggregate.proofs.walk.next_nonempty.Given as goal

-- the words so far are empty
abbrev pub invariant-loop-t : goal.invariant-loop-t
invariant-loop-t l = PassesEmpty (bits_of l.fn.mask) l.fn.from l.fn.whole l.t

abbrev pub decreases-loop-t : goal.decreases-loop-t
decreases-loop-t l = l.fn.whole - l.t
