use Rattle.std.proofs.Common.{◌∙◌, length, ap, sym, arith}
use Rattle.vb_walk.proofs.TakenRunLemmas.{runs_left-skip, runs_left_none, runs_left-step}
use Rattle.vb_walk.proofs.slices.BitSliceIteratorIterator.next.Goals as goal

pub returns-then-self-eq0-clause-steps : goal.returns-then-self-eq0-clause-steps
returns-then-self-eq0-clause-steps c =
    let b = c.self.inside.bytes.now in
    let d = c.skip_zeros-self-inside.result in
    let s = c.skip_zeros-self-inside.ensures in
    let none = runs_left_none b d s.valid c.if-self-eq0.true (s.last c.if-self-eq0.true) in
    (sym c.self.view_is ∙ runs_left-skip b c.self.inside.cursor d s ∙ none, none)

pub returns-clause-steps : goal.returns-clause-steps
returns-clause-steps c =
    let b = c.self.inside.bytes.now in let d = c.skip_zeros-self-inside.result in
    sym c.self.view_is ∙ runs_left-skip b c.self.inside.cursor d c.skip_zeros-self-inside.ensures
    ∙ runs_left-step b d c.take_run-run.result c.take_run-run.ensures

pub returns-clause-goes : goal.returns-clause-goes
returns-clause-goes c =
    let b = c.self.inside.bytes.now in let d = c.skip_zeros-self-inside.result in
    let fewer = ap length (sym c.self.view_is
    ∙ runs_left-skip b c.self.inside.cursor d c.skip_zeros-self-inside.ensures
    ∙ runs_left-step b d c.take_run-run.result c.take_run-run.ensures) in
    record { on = λ _. (tt, tt, omega arith); keeps = tt; rests = λ _. tt }
