use Rattle.std.proofs.Common.{List}
use Rattle.std.specs.Iterator.{IsFinite, Yields, size}
use Rattle.vb_mem.specs.OpenBuffer.{Lengthens}
use Rattle.vb_mem.proofs.buffer_mut.BufferMut.extend.Given as goal

abbrev pub invariant-loop-item : goal.invariant-loop-item
invariant-loop-item g l =
    let iter = g.I.IntoIter.Iterator in
    record {
      can : iter.can_next l.rest;
      finite : IsFinite (iter.remaining l.rest);
      given : (items : List g.row.T.Denot) × Yields iter.next_gives l.initial.rest items l.rest
          × Lengthens items l.fn.self l.self;
    }

abbrev pub decreases-loop-item : goal.decreases-loop-item
decreases-loop-item g l = size (g.I.IntoIter.Iterator.remaining l.rest)
