use Rattle.std.proofs.Common.{◌≡◌, ℕ, ◌+◌, ◌<◌, min, length, slice_index}
use Rattle.vb_take.proofs.block.bit_places.Given as goal

abbrev pub invariant-loop-k : goal.invariant-loop-k
invariant-loop-k l = record {
  long : length l.places ≡ 64;
  each : (i : ℕ) → i < l.k → slice_index l.places i ≡ min (slice_index l.block i) l.last + l.offset;
}
