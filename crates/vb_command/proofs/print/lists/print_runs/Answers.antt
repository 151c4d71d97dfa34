use Rattle.std.proofs.Common.{rules}
use Rattle.vb_command.proofs.print.lists.print_runs.Goals as goal

pub returns-in_err-put_next_run : goal.returns-in_err-put_next_run
returns-in_err-put_next_run g c =
    let laws = g.met.P.Printer in
    let behind = laws.joins _ _ _ _ _ _ _ _ _ c.loop-run.invariant c.in_err-put_next_run.ensures in
    let all = laws.joins _ _ _ _ _ _ _ _ _ c.in_ok-put_run.ensures behind in
    search rules
