use Rattle.std.proofs.Common.{◌≡◌, ◌-◌, ◌^◌, length}
use Rattle.std.specs.Io.KnownBytes.{prepend_known, append_known, Keeps}
use Rattle.vb_script.proofs.lines.line_ready.Given as goal

-- no byte is lost on input or output, and no call has failed
abbrev pub invariant-loop-at : goal.invariant-loop-at
invariant-loop-at g l = record {
  kept : Keeps (prepend_known l.fn.feed (g.R.Source.remaining l.fn.input))
      (prepend_known l.feed (g.R.Source.remaining l.input));
  told : Keeps (append_known (g.W.Sink.contents l.fn.output) l.fn.out)
      (append_known (g.W.Sink.contents l.output) l.out);
  reads : g.R.Source.faults l.input ≡ g.R.Source.faults l.fn.input;
  writes : g.W.Sink.faults l.output ≡ g.W.Sink.faults l.fn.output;
}

abbrev pub decreases-loop-at : goal.decreases-loop-at
decreases-loop-at g l = 2 ^ 64 - length l.feed
