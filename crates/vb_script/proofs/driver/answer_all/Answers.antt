use Rattle.std.proofs.Common.{◌≡◌, [], None, Some, rules, refl, ap, ◌∙◌, take}
use Rattle.std.specs.Io.KnownBytes.{append_known}
use Rattle.std.specs.Str.Lines.{strip_carriage_return}
use Rattle.std.proofs.lemmas.Result.{err_from_is_err_and}
use Rattle.vb_script.proofs.KnownBytes.{IfSome-known}
use Rattle.vb_script.proofs.Progress.{Progress-first, Progress-Keeps, Progress-next, Progress-ends}
use Rattle.vb_script.proofs.Progress.{Progress-stopped, Progress-unread-line, Ran-nil}
use Rattle.vb_script.proofs.Progress.{RanAny-Keeps, RanAny-next, Run-ends}
use Rattle.vb_script.proofs.driver.answer_all.Goals as goal

pub loop-at-init : goal.loop-at-init
loop-at-init g c = record {
  far = λ input e. rw (c.requires.feed, c.requires.out, c.requires.slots)
      (Progress-first input (g.R.Source.remaining c.args.input.now)
      (g.W.Sink.contents c.args.output.now) e);
  ran = rw (c.requires.out, c.requires.slots) ([], Ran-nil (g.W.Sink.contents c.args.output.now));
  reads = refl;
  writes = refl;
}

pub returns-in_err-at-clause-ends : goal.returns-in_err-at-clause-ends
returns-in_err-at-clause-ends g c =
    let l = c.loop-at in
    let q = err_from_is_err_and c.from_residual.result c.from_residual.ensures.1 in
    rw (q.1, q.2) (IfSome-known _ _ (λ input e.
    Progress-stopped l.number l.feed (g.R.Source.remaining l.input) (g.W.Sink.contents l.output)
    l.out l.session.pool _ _ _ _ (l.invariant.far input e) c.in_err-at.ensures.kept
    c.in_err-at.ensures.stopped))

pub returns-in_err-answer_line-clause-ends : goal.returns-in_err-answer_line-clause-ends
returns-in_err-answer_line-clause-ends g c =
    let l = c.loop-at in
    let r = c.line_ready.new in
    let remaining = g.R.Source.remaining in
    let contents = g.W.Sink.contents in
    let some : c.in_ok-at.field-0 ≡ Some c.in-Some.at = search rules in
    let line = c.line_len.ensures.line
    ∙ ap (λ xs. strip_carriage_return (take c.in-Some.at xs)) c.as_slice-bytes.ensures in
    let q = err_from_is_err_and c.from_residual-in_err-answer_line.result
    c.from_residual-in_err-answer_line.ensures.1 in
    rw (q.1, q.2) (IfSome-known _ _ (λ input e.
    let p = Progress-Keeps l.number l.session.pool l.feed (remaining l.input)
    (append_known (contents l.output) l.out) r.feed (remaining r.input)
    (append_known (contents r.output) r.out) (l.invariant.far input e) c.in_ok-at.ensures.kept
    c.in_ok-at.ensures.told in
    Progress-unread-line l.number r.feed (remaining r.input) (contents r.output) r.out
    l.session.pool c.in-Some.at (contents c.answer_line.new.output) _ p
    (rw some at c.in_ok-at.ensures.ready) (rw line at c.in_err-answer_line.ensures.err)))

pub returns-clause-ends : goal.returns-clause-ends
returns-clause-ends g c =
    let l = c.loop-at in
    let r = c.line_ready.new in
    let s = c.answer_last.new in
    let remaining = g.R.Source.remaining in
    let contents = g.W.Sink.contents in
    let none : c.in_ok-at.field-0 ≡ None = search rules in
    IfSome-known _ _ (λ input e.
    let p = Progress-Keeps l.number l.session.pool l.feed (remaining l.input)
    (append_known (contents l.output) l.out) r.feed (remaining r.input)
    (append_known (contents r.output) r.out) (l.invariant.far input e) c.in_ok-at.ensures.kept
    c.in_ok-at.ensures.told in
    Progress-ends l.number r.feed (remaining r.input) (contents r.output) r.out l.session.pool
    (contents s.output) s.session.pool c.answer_last.result p
    (rw none at c.in_ok-at.ensures.ready) (c.in_ok-at.ensures.end none)
    (rw c.as_slice.ensures at c.answer_last.ensures.ok)
    (rw c.as_slice.ensures at c.answer_last.ensures.err))

pub returns-clause-ran : goal.returns-clause-ran
returns-clause-ran g c =
    let l = c.loop-at in
    let r = c.line_ready.new in
    let s = c.answer_last.new in
    let contents = g.W.Sink.contents in
    let first = contents c.args.output.now in
    Run-ends first (contents r.output) r.out l.session.pool _ l.number (contents s.output)
    s.session.pool c.answer_last.result (RanAny-Keeps first
    (append_known (contents l.output) l.out) (append_known (contents r.output) r.out)
    l.session.pool l.invariant.ran c.in_ok-at.ensures.told) c.answer_last.ensures.ok
    c.answer_last.ensures.err

pub loop-at-preserved : goal.loop-at-preserved
loop-at-preserved g c =
    let l = c.loop-at in
    let r = c.line_ready.new in
    let s = c.answer_line.new in
    let remaining = g.R.Source.remaining in
    let contents = g.W.Sink.contents in
    let first = contents c.args.output.now in
    let old = append_known (contents r.output) r.out in
    let now = append_known (contents s.output) s.out in
    let some : c.in_ok-at.field-0 ≡ Some c.in-Some.at = search rules in
    let line = c.line_len.ensures.line
    ∙ ap (λ xs. strip_carriage_return (take c.in-Some.at xs)) c.as_slice-bytes.ensures in
    record {
      far = λ input e.
          let p = Progress-Keeps l.number l.session.pool l.feed (remaining l.input)
          (append_known (contents l.output) l.out) r.feed (remaining r.input) old
          (l.invariant.far input e) c.in_ok-at.ensures.kept c.in_ok-at.ensures.told in
          Progress-next l.number r.feed (remaining r.input) old l.session.pool c.in-Some.at
          c.consume.new.self now s.session.pool p (rw some at c.in_ok-at.ensures.ready)
          (rw line at c.in_ok-answer_line.ensures.ok) c.consume.ensures;
      ran = RanAny-next first old l.session.pool _ l.number now s.session.pool
          (RanAny-Keeps first (append_known (contents l.output) l.out) old l.session.pool
          l.invariant.ran c.in_ok-at.ensures.told) c.in_ok-answer_line.ensures.ok;
      reads = search rules;
      writes = search rules;
    }
