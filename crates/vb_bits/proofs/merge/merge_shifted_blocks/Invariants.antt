use Rattle.std.proofs.Common.{◌*◌}
use Rattle.vb_bits.specs.Bits.{bits}
use Rattle.vb_bits.specs.Operators.{merged_by}
use Rattle.vb_bits.specs.Writes.{Writes}
use Rattle.vb_bits.proofs.merge.merge_shifted_blocks.Given as goal

abbrev pub invariant-loop-k : goal.invariant-loop-k
invariant-loop-k g l = Writes l.initial.dst l.dst l.d (merged_by g.M.Merge.bit
    (bits l.initial.dst l.d (256 * l.k)) (bits l.src l.s (256 * l.k)))
