use Rattle.std.proofs.Common.{◌≡◌, ◌*◌, ◌≤◌, take}
use Rattle.vb_bits.specs.Bits.{count}
use Rattle.vb_view.specs.View.{bits_of}
use Rattle.vb_directory.specs.Counts.{AreCounts}
use Rattle.vb_directory.proofs.counts.Counts.count_added.Given as goal

-- the counts before the blocks so far, and the number of set bits before `start`
abbrev pub invariant-loop-block : goal.invariant-loop-block
invariant-loop-block g l = record {
  start : l.start ≤ 512 * l.block;
  ones : l.ones ≡ count (take l.start (bits_of l.bits));
  counts : AreCounts (take (512 * l.block) (bits_of l.bits)) l.self.numbers;
  room : l.self.room ≡ l.fn.self.room;
}
