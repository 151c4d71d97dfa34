use Rattle.std.proofs.Common.{◌≡◌, ◌+◌, ◌≤◌, ◌++◌, length, List, map, Ok}
use Rattle.vb_mem.proofs.buffer_mut.BufferMut.try_extend_trusted.Given as goal

abbrev pub invariant-loop-item : goal.invariant-loop-item
invariant-loop-item g l = record {
  can : (goal.iterator-loop-item g).can_next l.item-iterator;
  ends : (goal.iterator-loop-item g).is_finite l.item-iterator;
  list : (values : List g.row.T.Denot) × (l.yielded ≡ map Ok values)
      × (l.self-inside.items.items ≡ l.fn.self.list ++ values);
  room : length l.self-inside.items.items + g.I.TrustedLen.left l.item-iterator
      ≤ l.self-inside.items.cap;
  whole : length l.fn.self.list + g.I.TrustedLen.left l.fn.iter ≤ l.self-inside.items.cap;
  grows : l.fn.self.room ≤ l.self-inside.items.cap;
  alignment : l.self-inside.alignment ≡ l.fn.self.alignment;
  declared : l.self-inside.declared ≡ l.fn.self.declared;
}
