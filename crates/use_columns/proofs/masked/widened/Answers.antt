-- The lesser and the greater number are the ends of the longer list.
use Rattle.std.proofs.Common.{ℕ, Some, subst}
use Rattle.use_columns.specs.Columns.{AreEnds}
use Rattle.use_columns.proofs.Ends.{ends_with}
use Rattle.use_columns.proofs.masked.widened.Goals as goal

pub returns-in-Some : goal.returns-in-Some
returns-in-Some c = λ xs h.
    let ends : ℕ × ℕ = (c.in-Some.low, c.in-Some.high) in
    let before : AreEnds xs (Some ends) = subst (AreEnds xs) c.in-Some.is h in
    rw (c.min.ensures, c.max.ensures) (ends_with xs ends c.args.value before)
