use Rattle.std.proofs.Common.{rules}
use Rattle.vb_command.proofs.print.lists.print_places.Goals as goal

pub returns-in_err-put_behind : goal.returns-in_err-put_behind
returns-in_err-put_behind g c =
    let laws = g.met.P.Printer in
    let behind = laws.joins _ _ _ _ _ _ _ _ _ c.loop-place.invariant c.in_err-put_behind.ensures in
    let all = laws.joins _ _ _ _ _ _ _ _ _ c.in_ok-put_number.ensures behind in
    search rules
