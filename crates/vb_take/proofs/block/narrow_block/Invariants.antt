use Rattle.std.proofs.Common.{◌≡◌, ℕ, negsuc, ◌+◌, ◌<◌, length, map, slice_index, slice_index_or}
use Rattle.vb_take.specs.Blocks.{narrow_place}
use Rattle.vb_take.proofs.block.narrow_block.Given as goal

abbrev pub invariant-loop-k : goal.invariant-loop-k
invariant-loop-k g l = record {
  long : length l.block ≡ 64;
  each : (i : ℕ) → i < l.k → slice_index l.block i
      ≡ narrow_place (slice_index_or (map g.I.BitIndex.number l.indices) (l.at + i) (negsuc 0));
}
