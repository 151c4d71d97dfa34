-- Written by tools/write-lists from tools/families/indices.txt.
use Rattle.std.proofs.Common.{◌≡◌, ◌+◌, ◌<◌, ◌≤◌, ◌++◌, length, drop}
use Rattle.std.specs.List.{All}
use Rattle.vb_bits.specs.Bits.{bits, places}
use Rattle.vb_c.proofs.walk.all_indices_u32.Given as goal

abbrev pub invariant-loop-place : goal.invariant-loop-place
invariant-loop-place l = record {
  can_next : goal.iterator-loop-place.can_next l.place-iterator;
  is_finite : goal.iterator-loop-place.is_finite l.place-iterator;
  below : All (λ i. i < l.len) l.place-iterator;
  whole : l.yielded ++ l.place-iterator ≡ places (bits l.bytes l.offset l.len);
  count : l.written ≡ length l.yielded;
  room : l.written + length l.place-iterator ≤ length l.initial.out;
  len : length l.out ≡ length l.initial.out;
  items : l.out ≡ l.yielded ++ drop l.written l.initial.out;
}
