use Rattle.std.proofs.Common.{◌++◌, ◌∙◌, ap, length}
use Rattle.std.proofs.iter.runs.Consumers.{count_runs}
use Rattle.vb_mem.proofs.Runs.{ranges_give_all}
use Rattle.vb_mem.proofs.buffer_mut.BufferMut.from_iter.Goals as goal

-- the calls of `next` that `extend` makes form one run
pub returns-clause-len : goal.returns-clause-len
returns-clause-len g c =
    let added = c.in_ok-extend.ensures.lengthens in
    let list = added.3.list ∙ ap (λ l. l ++ added.1) c.empty-buffer.ensures.list in (
      added.0,
      added.2,
      count_runs g.I.IntoIter.Iterator.next_gives added.0 (length c.extend.new.self.list)
          (added.1, added.4, ap length list),
      ranges_give_all,
    )
