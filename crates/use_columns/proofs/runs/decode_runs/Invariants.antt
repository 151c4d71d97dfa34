use Rattle.std.proofs.Common.{◌≡◌, take}
use Rattle.use_columns.specs.Decoded.{run_values}
use Rattle.use_columns.proofs.runs.decode_runs.Given as goal

abbrev pub invariant-loop-run : goal.invariant-loop-run
invariant-loop-run g l = l.column.list ≡ run_values (take l.run-index l.runs)
