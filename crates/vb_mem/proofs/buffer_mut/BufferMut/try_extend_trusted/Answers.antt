use Rattle.std.proofs.Common.{◌≡◌}
use Rattle.vb_mem.proofs.Runs.{Yields-push}
use Rattle.vb_mem.proofs.buffer_mut.BufferMut.try_extend_trusted.Goals as goal

-- the values before the error were appended, and the calls returned them and then the error
pub returns-in-Err-clause-item : goal.returns-in-Err-clause-item
returns-in-Err-clause-item g c =
    let kept = c.loop-item.invariant in
    let start = c.into_iter-item-iterator.result in
    let begins : start ≡ c.args.iter = c.into_iter-item-iterator.ensures.into_iter_gives in
    let run =
    Yields-push g.I.Iterator.next_gives c.loop-item.yielded start c.loop-item.item-iterator
    c.next.new.self c.in-Some.item c.loop-item.yielded_by c.in-Some.ensures.steps in (
      kept.list.0,
      c.next.new.self,
      rw (← kept.list.1, ← c.in-Err.is, ← begins) run,
      record {
        list = kept.list.2;
        alignment = kept.alignment;
        declared = kept.declared;
        room = kept.grows;
      },
    )
