use Rattle.std.proofs.Common.{◌≡◌, ◌-◌, ◌≤◌, length, take}
use Rattle.std.specs.Io.KnownBytes.{append_known, Appends}
use Rattle.std.specs.List.{flat_map}
use Rattle.vb_command.specs.Printed.{digit_of}
use Rattle.vb_script.proofs.outbox.OutboxPrinter.put_digits.Given as goal

-- the digits so far were appended, and no write has failed
abbrev pub invariant-loop-start : goal.invariant-loop-start
invariant-loop-start g l = record {
  within : l.start ≤ length l.bits;
  told : Appends (append_known (g.W.Sink.contents l.fn.output) l.fn.self)
      (append_known (g.W.Sink.contents l.output) l.self) (flat_map digit_of (take l.start l.bits));
  writes : g.W.Sink.faults l.output ≡ g.W.Sink.faults l.fn.output;
}

abbrev pub decreases-loop-start : goal.decreases-loop-start
decreases-loop-start g l = length l.bits - l.start
