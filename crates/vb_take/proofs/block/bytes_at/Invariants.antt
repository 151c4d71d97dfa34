use Rattle.std.proofs.Common.{◌≡◌, ℕ, ◌/◌, ◌<◌, length, slice_index}
use Rattle.vb_take.proofs.block.bytes_at.Given as goal

abbrev pub invariant-loop-k : goal.invariant-loop-k
invariant-loop-k l = record {
  long : length l.taken ≡ 64;
  each : (i : ℕ)
      → i < l.k → slice_index l.taken i ≡ slice_index l.bytes (slice_index l.places i / 8);
}
