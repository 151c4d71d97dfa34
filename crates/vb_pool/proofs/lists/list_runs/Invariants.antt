use Rattle.std.proofs.Common.{◌≡◌, ◌++◌}
use Rattle.vb_bits.specs.Runs.{runs}
use Rattle.vb_set.specs.View.{bits_of}
use Rattle.vb_pool.proofs.lists.list_runs.Given as goal

-- the previous runs, followed by the remaining ones
abbrev pub invariant-loop-run : goal.invariant-loop-run
invariant-loop-run g l = l.runs.items ++ l.run-iterator ≡ runs (bits_of l.fn.view)
