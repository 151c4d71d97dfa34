use Rattle.vb_view.specs.View.{bits_of}
use Rattle.vb_filter.proofs.FrontLemmas.{FrontKept}
use Rattle.vb_filter.proofs.retain.retain_values.Given as goal

-- the values of the words so far are in front
abbrev pub invariant-loop-t : goal.invariant-loop-t
invariant-loop-t g l =
    FrontKept (bits_of l.fn.mask) l.fn.values l.t l.len l.fn.values l.values
