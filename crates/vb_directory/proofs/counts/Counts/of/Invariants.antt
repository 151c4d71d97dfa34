use Rattle.std.proofs.Common.{◌≡◌, ◌-◌, ◌*◌, ◌≤◌, take, vec_capacity}
use Rattle.vb_bits.specs.Bits.{count}
use Rattle.vb_view.specs.View.{bits_of}
use Rattle.vb_directory.specs.Counts.{AreCounts, numbers_for}
use Rattle.vb_directory.proofs.counts.Counts.of.Given as goal

-- the counts before the blocks so far, and the number of set bits before the last of them
abbrev pub invariant-loop-block : goal.invariant-loop-block
invariant-loop-block g l = record {
  some : 1 ≤ l.block;
  room : numbers_for l.room ≤ vec_capacity l.numbers;
  ones : l.ones ≡ count (take (512 * (l.block - 1)) (bits_of l.bits));
  counts : AreCounts (take (512 * l.block) (bits_of l.bits)) l.numbers.items;
}
