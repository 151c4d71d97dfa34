use Rattle.std.proofs.Common.{◌*◌}
use Rattle.vb_bits.specs.Bits.{bits}
use Rattle.vb_bits.specs.Operators.{merged_by}
use Rattle.vb_bits.specs.Writes.{Writes}
use Rattle.vb_bits.proofs.into.merge_blocks_into.Given as goal

abbrev pub invariant-loop-k : goal.invariant-loop-k
invariant-loop-k g l = Writes l.initial.out l.out l.o (merged_by g.M.Merge.bit
    (bits l.left l.l (256 * l.k)) (bits l.right l.r (256 * l.k)))
