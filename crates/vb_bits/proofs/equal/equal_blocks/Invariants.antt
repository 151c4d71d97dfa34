use Rattle.std.proofs.Common.{◌≡◌, ◌*◌}
use Rattle.vb_bits.specs.Bits.{bits}
use Rattle.vb_bits.specs.declared.equal.TheConstants.{BLOCK_WORDS}
use Rattle.vb_bits.proofs.equal.equal_blocks.Given as goal

abbrev pub invariant-loop-k : goal.invariant-loop-k
invariant-loop-k l =
    bits l.left (8 * l.a) (64 * (BLOCK_WORDS * l.k)) ≡ bits l.right l.r (64 * (BLOCK_WORDS * l.k))
