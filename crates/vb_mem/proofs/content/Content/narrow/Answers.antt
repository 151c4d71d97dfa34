use Rattle.std.proofs.Common.{rules, ◌≤◌, refl, sym, arith}
use Rattle.std.proofs.lemmas.List.{length-take}
use Rattle.vb_mem.proofs.Windows.{slice_range-window}
use Rattle.vb_mem.proofs.content.Content.narrow.Goals as goal
use Rattle.vb_mem.proofs.content.Content.narrow.Goals.{in-Some, in-None}

-- the new window is a part of the old window
pub returns-clause-shows : goal.returns-clause-shows
returns-clause-shows g c =
    let range = c.args.range in
    let rc = c.in-Stored.field-0 in
    elim c.match-shown.branch [
      | in-Some w ↦
          let outer = w.in-Some.window in
          let within = rw (c.in-Stored.is, w.in-Some.is) at c.requires.can_slice in
          let short : range.end ≤ outer.len = omega (arith, simp length-take at within.1) in
          rw (c.in-Stored.is, w.in-Some.is, w.start-is) (record {
            list =
                sym (slice_range-window rc.value.list outer.start outer.len range.start range.end
                within.0 short);
            alignment = refl;
            place = λ _. omega arith;
            declared = λ _. refl;
          })
      | in-None w ↦
          rw (c.in-Stored.is, w.in-None.is, w.start-is) (record {
            list = refl;
            alignment = refl;
            place = λ _. omega arith;
            declared = λ _. refl;
          })
    ]

-- the old window is in bounds of the storage, and the new window is a part of the old one
pub returns-clause-sound : goal.returns-clause-sound
returns-clause-sound g c =
    elim c.match-shown.branch [
      | in-Some w ↦
          let sound = rw (c.in-Stored.is, w.in-Some.is) at c.requires.sound in
          let seen = rw (c.in-Stored.is, w.in-Some.is) at c.requires.can_slice in
          let within = simp length-take at seen in
          rw w.start-is (search (rules, arith))
      | in-None w ↦
          let seen = rw (c.in-Stored.is, w.in-None.is) at c.requires.can_slice in
          rw w.start-is (grind arith)
    ]
