use Rattle.std.proofs.Common.{◌++◌, codes, take, Ok}
use Rattle.std.specs.List.{flat_map}
use Rattle.vb_command.specs.Printed.{run_text}
use Rattle.vb_command.proofs.print.lists.print_runs.Given as goal

-- the runs after the first one, up to here, were put, each after a comma
abbrev pub invariant-loop-run : goal.invariant-loop-run
invariant-loop-run g l = g.P.Printer.puts l.initial.printer l.initial.output
    (flat_map (λ x. codes "," ++ run_text x) (take l.run-index l.rest)) (Ok tt) l.printer l.output
