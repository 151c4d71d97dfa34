use Rattle.std.proofs.Common.{rules, [], ◌∷◌, arith}
use Rattle.vb_set.specs.Appender.{HasAdded}
use Rattle.vb_set_tests.proofs.callers.append_two.Goals as goal

pub returns-in_err-append-2-clause-in_room : goal.returns-in_err-append-2-clause-in_room
returns-in_err-append-2-clause-in_room g c = λ room.
    let one = c.in_ok-append.ensures.ok c.args.set.now [] c.appender-appender.ensures.none in
    absurd (search (
      rules,
      c.in_err-append-2.ensures.in_room c.args.set.now (c.args.first ∷ [])
          one (omega (arith, room)),
    ))

pub returns-clause-ok : goal.returns-clause-ok
returns-clause-ok g c =
    let one = c.in_ok-append.ensures.ok c.args.set.now [] c.appender-appender.ensures.none in
    let two = c.in_ok-append-2.ensures.ok c.args.set.now (c.args.first ∷ []) one in
    search (rules, c.drop.ensures.adds c.args.set.now (c.args.first ∷ c.args.second ∷ []) two)
