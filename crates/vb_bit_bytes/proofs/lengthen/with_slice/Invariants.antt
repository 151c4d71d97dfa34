use Rattle.std.proofs.Common.{◌≡◌, ◌++◌, take}
use Rattle.vb_bit_bytes.proofs.lengthen.with_slice.Given as goal

abbrev pub invariant-loop-k : goal.invariant-loop-k
invariant-loop-k g l = record {
  list : l.bytes.list ≡ l.initial.bytes.list ++ take l.k l.added;
  room : l.bytes.room ≡ l.initial.bytes.room;
  alignment : l.bytes.alignment ≡ l.initial.bytes.alignment;
  declared : l.bytes.declared ≡ l.initial.bytes.declared;
}
