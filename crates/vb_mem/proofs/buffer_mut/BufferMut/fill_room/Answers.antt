use Rattle.std.proofs.Common.{arith}
use Rattle.vb_mem.proofs.Runs.{IsNearerEnd-after}
use Rattle.vb_mem.proofs.buffer_mut.BufferMut.fill_room.Goals as goal

pub returns-in_default-clause-fills : goal.returns-in_default-clause-fills
returns-in_default-clause-fills g c =
    let kept = c.loop.invariant in (
      c.loop.yielded,
      record {
        list = kept.list;
        alignment = kept.alignment;
        declared = kept.declared;
        room = omega (arith, kept.room);
      },
      ((c.loop.iter, c.loop.yielded_by, c.in_default.ensures.steps), tt),
    )

pub returns-clause-fills : goal.returns-clause-fills
returns-clause-fills g c =
    let kept = c.loop.invariant in (
      c.loop.yielded,
      record {
        list = kept.list;
        alignment = kept.alignment;
        declared = kept.declared;
        room = omega (arith, kept.room);
      },
      (
        (c.loop.iter, c.loop.yielded_by, c.next-over.ensures.steps),
        IsNearerEnd-after g.I.Iterator.can_next g.I.Iterator.remaining c.args.iter c.loop.iter
            c.next-over.new.self c.next-over.result c.loop.iterator.1 kept.nearer
            c.next-over.ensures.goes,
      ),
    )
