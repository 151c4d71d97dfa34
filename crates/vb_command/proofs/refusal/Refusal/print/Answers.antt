use Rattle.std.proofs.lemmas.Result.{err_from_is_err_and}
use Rattle.vb_command.proofs.refusal.Refusal.print.Goals as goal

pub returns-in_err-put_words-in-TakeOutOfRange : goal.returns-in_err-put_words-in-TakeOutOfRange
returns-in_err-put_words-in-TakeOutOfRange g c =
    let p = err_from_is_err_and c.from_residual.result c.from_residual.ensures.1 in
    rw (p.1, p.2) (g.met.P.Printer.fails _ _ _ _ _ _ _
    c.in_err-put_words-in-TakeOutOfRange.ensures)

pub returns-in_ok-put_words-in-TakeOutOfRange : goal.returns-in_ok-put_words-in-TakeOutOfRange
returns-in_ok-put_words-in-TakeOutOfRange g c = rw c.in-TakeOutOfRange.is
    (g.met.P.Printer.joins _ _ _ _ _ _ _ _ _ c.in_ok-put_words-in-TakeOutOfRange.ensures
    c.put_last_number.ensures)

pub returns-in-LengthMismatch : goal.returns-in-LengthMismatch
returns-in-LengthMismatch g c = rw c.in-LengthMismatch.is
    c.put_last_words-in-LengthMismatch.ensures

pub returns-in-OutOfMemory : goal.returns-in-OutOfMemory
returns-in-OutOfMemory g c = rw c.in-OutOfMemory.is c.put_last_words-in-OutOfMemory.ensures
