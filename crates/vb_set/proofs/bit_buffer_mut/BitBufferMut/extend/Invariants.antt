use Rattle.std.proofs.Common.{◌≡◌, ◌≤◌, Bool, List, length}
use Rattle.std.specs.Iterator.{IsFinite, Yields, size}
use Rattle.vb_set.specs.OpenSet.{AddsBits}
use Rattle.vb_set.proofs.bit_buffer_mut.BitBufferMut.extend.Given as goal

abbrev pub invariant-loop : goal.invariant-loop
invariant-loop g l =
    let iter = g.I.IntoIter.Iterator in
    record {
      can : iter.can_next l.rest;
      finite : IsFinite (iter.remaining l.rest);
      given : (items : List Bool) × Yields iter.next_gives l.initial.rest items l.rest
          × AddsBits items l.fn.self l.self;
      offset : l.self.offset ≡ l.fn.self.offset;
      alignment : l.self.alignment ≡ l.fn.self.alignment;
      grows : l.fn.self.room ≤ l.self.room;
      stays : length l.self.bits ≤ l.fn.self.room → l.self.room ≡ l.fn.self.room;
    }

abbrev pub decreases-loop : goal.decreases-loop
decreases-loop g l = size (g.I.IntoIter.Iterator.remaining l.rest)
