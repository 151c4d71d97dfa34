use Rattle.std.proofs.Common.{◌*◌}
use Rattle.vb_view.specs.View.{bits_of}
use Rattle.vb_expand.proofs.ScatterLemmas.{FrontScattered}
use Rattle.vb_expand.proofs.scatter.scatter_values_into.Given as goal

-- the values of the words so far
abbrev pub invariant-loop-t : goal.invariant-loop-t
invariant-loop-t g l =
    FrontScattered (bits_of l.fn.mask) l.fn.values l.fn.out l.out (64 * l.t) l.taken
