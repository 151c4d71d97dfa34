use Rattle.std.proofs.Common.{◌≡◌, ◌↔◌, ◌*◌}
use Rattle.vb_bits.specs.Bits.{bits}
use Rattle.vb_bits.proofs.equal.differing_shifted.Given as goal

abbrev pub invariant-loop-k : goal.invariant-loop-k
invariant-loop-k l =
    (l.differing ≡ 0) ↔ (bits l.left (8 * l.a) (64 * l.k) ≡ bits l.right l.r (64 * l.k))
