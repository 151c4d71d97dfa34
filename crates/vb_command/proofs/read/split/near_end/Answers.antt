use Rattle.std.proofs.Common.{arith}
use Rattle.vb_command.proofs.Cuts.{searched-all}
use Rattle.vb_command.proofs.read.split.near_end.Goals as goal

pub returns-after-loop-at-clause-place : goal.returns-after-loop-at-clause-place
returns-after-loop-at-clause-place c =
    let l = c.loop-at in
    searched-all c.args.separator c.args.bytes.now l.at l.invariant.within
    (omega (arith, c.loop-at-test.false)) l.invariant.other
