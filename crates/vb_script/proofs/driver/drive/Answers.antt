use Rattle.std.proofs.Common.{◌≡◌, rules}
use Rattle.std.proofs.lemmas.Result.{err_from_is_err_and}
use Rattle.vb_script.proofs.KnownBytes.{IfSome-known}
use Rattle.vb_script.proofs.Progress.{AnswersRun-none, SessionEnds-none, UnlessWrite-anyway}
use Rattle.vb_script.specs.declared.error.DriveError.TheVariants.{Memory}
use Rattle.vb_script.proofs.driver.drive.Goals as goal

pub returns-in_err-session-clause-ends : goal.returns-in_err-session-clause-ends
returns-in_err-session-clause-ends g c =
    let memory : c.in_err-session.field-0.0 ≡ Memory = search rules in
    let p = err_from_is_err_and c.from_residual.result c.from_residual.ensures.1 in
    rw (p.1, p.2, memory) (IfSome-known _ _ (λ input e.
    SessionEnds-none input (g.R.Source.remaining c.args.input.now)
    (g.W.Sink.contents c.args.output.now) e))

pub returns-in_err-session-clause-ran : goal.returns-in_err-session-clause-ran
returns-in_err-session-clause-ran g c = UnlessWrite-anyway c.from_residual.result _
    (AnswersRun-none (g.W.Sink.contents c.args.output.now))
