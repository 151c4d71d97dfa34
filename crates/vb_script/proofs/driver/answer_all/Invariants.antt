use Rattle.std.proofs.Common.{◌≡◌, ◌-◌, ◌^◌, List, ℕ, Some}
use Rattle.std.specs.Io.KnownBytes.{append_known}
use Rattle.vb_script.proofs.Progress.{Progress, RanAny}
use Rattle.vb_script.proofs.driver.answer_all.Given as goal

-- the session's progress, and no call has failed
abbrev pub invariant-loop-at : goal.invariant-loop-at
invariant-loop-at g l = record {
  far : (input : List ℕ) → g.R.Source.remaining l.fn.input ≡ Some input
      → Progress input (g.W.Sink.contents l.fn.output) l.number l.feed
      (g.R.Source.remaining l.input) (append_known (g.W.Sink.contents l.output) l.out)
      l.session.pool;
  ran : RanAny (g.W.Sink.contents l.fn.output) (append_known (g.W.Sink.contents l.output) l.out)
      l.session.pool;
  reads : g.R.Source.faults l.input ≡ g.R.Source.faults l.fn.input;
  writes : g.W.Sink.faults l.output ≡ g.W.Sink.faults l.fn.output;
}

abbrev pub decreases-loop-at : goal.decreases-loop-at
decreases-loop-at g l = 2 ^ 64 - l.number
