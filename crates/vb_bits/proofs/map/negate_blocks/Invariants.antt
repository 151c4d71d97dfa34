use Rattle.std.proofs.Common.{◌*◌}
use Rattle.vb_bits.specs.Bits.{bits, complement}
use Rattle.vb_bits.specs.Writes.{Writes}
use Rattle.vb_bits.proofs.map.negate_blocks.Given as goal

abbrev pub invariant-loop-k : goal.invariant-loop-k
invariant-loop-k l = Writes l.initial.bytes l.bytes (8 * l.at)
    (complement (bits l.initial.bytes (8 * l.at) (256 * l.k)))
