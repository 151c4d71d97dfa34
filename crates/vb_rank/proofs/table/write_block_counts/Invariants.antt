use Rattle.std.proofs.Common.{◌≡◌, ◌*◌, ◌++◌, length, take, drop}
use Rattle.vb_bits.specs.Bits.{bits, count}
use Rattle.vb_rank.specs.Tables.{block_counts}
use Rattle.vb_rank.proofs.table.write_block_counts.Given as goal

-- the entries so far, and the count before the next one
abbrev pub invariant-loop-block : goal.invariant-loop-block
invariant-loop-block l = record {
  len : length l.table ≡ length l.initial.table;
  items : l.table ≡ take l.block (block_counts (bits l.bytes l.offset l.len))
      ++ drop l.block l.initial.table;
  before : l.before ≡ count (take (512 * l.block) (bits l.bytes l.offset l.len));
}
