use Rattle.std.proofs.Common.{codes, decimal, append_assoc}
use Rattle.vb_command.proofs.print.lists.put_next_run.Goals as goal

pub returns : goal.returns
returns g c =
    let run = c.args.run in
    rw (append_assoc (decimal run.0) (codes "-") (decimal run.1))
    (g.met.P.Printer.joins _ _ _ _ _ _ _ _ _ c.in_ok-put_behind.ensures c.put_behind-2.ensures)
