use Rattle.std.proofs.Common.{◌++◌, codes, decimal, take, Ok}
use Rattle.std.specs.List.{flat_map}
use Rattle.vb_command.proofs.print.lists.print_places.Given as goal

-- the indices after the first one, up to here, were put, each after a comma
abbrev pub invariant-loop-place : goal.invariant-loop-place
invariant-loop-place g l = g.P.Printer.puts l.initial.printer l.initial.output
    (flat_map (λ x. codes "," ++ decimal x) (take l.place-index l.rest)) (Ok tt) l.printer l.output
