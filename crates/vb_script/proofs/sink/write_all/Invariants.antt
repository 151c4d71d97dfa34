use Rattle.std.proofs.Common.{◌-◌, ◌≤◌, length, take}
use Rattle.std.specs.Io.KnownBytes.{Appends}
use Rattle.vb_script.proofs.sink.write_all.Given as goal

-- the bytes so far were written
abbrev pub invariant-loop-start : goal.invariant-loop-start
invariant-loop-start g l = record {
  within : l.start ≤ length l.bytes;
  written : Appends (g.W.Write.contents l.fn.writer) (g.W.Write.contents l.writer)
      (take l.start l.bytes);
}

abbrev pub decreases-loop-start : goal.decreases-loop-start
decreases-loop-start g l = length l.bytes - l.start
