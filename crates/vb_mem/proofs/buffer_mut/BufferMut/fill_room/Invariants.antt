use Rattle.std.proofs.Common.{◌≡◌, ◌≤◌, ◌++◌, length}
use Rattle.std.specs.Iterator.{size}
use Rattle.vb_mem.proofs.buffer_mut.BufferMut.fill_room.Given as goal

abbrev pub invariant-loop : goal.invariant-loop
invariant-loop g l = record {
  list : l.self-inside.items.items ≡ l.fn.self.list ++ l.yielded;
  len : length l.self-inside.items.items ≡ l.counter;
  room : l.self-inside.items.cap ≡ l.fn.self.room;
  alignment : l.self-inside.alignment ≡ l.fn.self.alignment;
  declared : l.self-inside.declared ≡ l.fn.self.declared;
  nearer : size (g.I.Iterator.remaining l.iter) ≤ size (g.I.Iterator.remaining l.initial.iter);
}
