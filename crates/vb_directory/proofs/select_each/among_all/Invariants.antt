use Rattle.std.proofs.Common.{◌≡◌, ℕ, ◌+◌, ◌*◌, ◌<◌, length, slice_index}
use Rattle.vb_directory.proofs.select_each.among_all.Given as goal

abbrev pub invariant-loop-k : goal.invariant-loop-k
invariant-loop-k l = record {
  long_blocks : length l.blocks ≡ 8;
  long_befores : length l.befores ≡ 8;
  blocks : (i : ℕ) → i < l.k → slice_index l.blocks i
      ≡ 128 * slice_index l.group i + slice_index l.block i;
  befores : (i : ℕ) → i < l.k → slice_index l.befores i
      ≡ slice_index l.before i + slice_index l.more i;
}
