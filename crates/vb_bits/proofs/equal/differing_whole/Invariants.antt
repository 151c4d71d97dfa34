use Rattle.std.proofs.Common.{◌≡◌, ◌↔◌, ◌*◌}
use Rattle.vb_bits.specs.Bits.{bits}
use Rattle.vb_bits.proofs.equal.differing_whole.Given as goal

abbrev pub invariant-loop-k : goal.invariant-loop-k
invariant-loop-k l =
    (l.differing ≡ 0) ↔ (bits l.left (8 * l.a) (64 * l.k) ≡ bits l.right (8 * l.b) (64 * l.k))
