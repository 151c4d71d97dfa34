use Rattle.std.proofs.Common.{◌≡◌, ◌++◌, replicate, vec_capacity}
use Rattle.vb_mem.proofs.buffer_mut.grow.with_copies.Given as goal

abbrev pub invariant-loop : goal.invariant-loop
invariant-loop g l = record {
  items : l.items.items ≡ l.initial.items.items ++ replicate l.counter l.item;
  room : vec_capacity l.items ≡ vec_capacity l.initial.items;
}
