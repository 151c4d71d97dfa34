use Rattle.std.proofs.Common.{◌+◌, ◌-◌, ◌*◌, ◌/◌}
use Rattle.vb_bits.specs.Bits.{bits}
use Rattle.vb_bits.specs.Writes.{Writes}
use Rattle.vb_c_core.proofs.copy.move_up.Given as goal

-- the bits after those of the blocks that are left are moved
abbrev pub invariant-loop-k : goal.invariant-loop-k
invariant-loop-k l = Writes l.fn.bytes l.bytes (l.d + 4096 * (l.len / 4096 - l.k))
    (bits l.fn.bytes (l.s + 4096 * (l.len / 4096 - l.k)) (l.len - 4096 * (l.len / 4096 - l.k)))
