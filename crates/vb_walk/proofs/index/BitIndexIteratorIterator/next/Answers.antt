use Rattle.std.proofs.Common.{◌∙◌, length, ap, sym, refl, arith}
use Rattle.vb_walk.proofs.WalkLemmas.{places_left-skip, places_left_none, places_left-step}
use Rattle.vb_walk.proofs.WalkLemmas.{lowest_inside, word_fits}
use Rattle.vb_walk.proofs.index.BitIndexIteratorIterator.next.Goals as goal

pub returns-then-word-eq0-clause-steps : goal.returns-then-word-eq0-clause-steps
returns-then-word-eq0-clause-steps c =
    let b = c.self.inside.bytes.now in let s = c.skip_zeros-self-inside.ensures in
    let none = places_left_none b c.skip_zeros-self-inside.result s.valid c.if-word-eq0.true
    (s.last c.if-word-eq0.true) in (
      sym c.self.view_is
          ∙ places_left-skip b c.self.inside.cursor c.skip_zeros-self-inside.result s ∙ none,
      none,
    )

pub overflow_add-result : goal.overflow_add-result
overflow_add-result c =
    let b = c.self.inside.bytes.now in
    let d = c.skip_zeros-self-inside.result in
    let v = c.skip_zeros-self-inside.ensures.valid in
    omega (
      arith,
      v.fits,
      v.walked,
      lowest_inside b d v (omega (arith, c.if-word-eq0.false)) (word_fits b d v),
    )

pub returns-clause-steps : goal.returns-clause-steps
returns-clause-steps c =
    let b = c.self.inside.bytes.now in
    let d = c.skip_zeros-self-inside.result in
    let s = c.skip_zeros-self-inside.ensures in
    sym c.self.view_is ∙ places_left-skip b c.self.inside.cursor d s ∙ places_left-step b
    d _ s.valid (omega (arith, c.if-word-eq0.false)) (word_fits b d s.valid) refl

pub returns-clause-goes : goal.returns-clause-goes
returns-clause-goes c =
    let b = c.self.inside.bytes.now in
    let d = c.skip_zeros-self-inside.result in
    let s = c.skip_zeros-self-inside.ensures in
    let fewer = ap length
    (sym c.self.view_is ∙ places_left-skip b c.self.inside.cursor d s ∙ places_left-step b d
    _ s.valid (omega (arith, c.if-word-eq0.false)) (word_fits b d s.valid) refl) in
    record { on = λ _. (tt, tt, omega arith); keeps = tt; rests = λ _. tt }
