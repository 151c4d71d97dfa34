use Rattle.std.proofs.Common.{◌≡◌, ◌+◌, ◌*◌}
use Rattle.vb_bits.specs.Bits.{bits, count}
use Rattle.vb_count.specs.Looks.{LooksExactly}
use Rattle.vb_count.proofs.count.count_quarters.Given as goal

abbrev pub invariant-loop-k : goal.invariant-loop-k
invariant-loop-k g l = record {
  value : l.sum ≡ count (bits (g.G.Glance.seen l.initial.src).bytes (8 * l.at) (2048 * l.k))
      + count (bits (g.G.Glance.seen l.initial.src).bytes (8 * (l.at + 256 * l.turns)) (2048 * l.k))
      + count (bits
      (g.G.Glance.seen l.initial.src).bytes (8 * (l.at + 256 * (2 * l.turns))) (2048 * l.k))
      + count (bits
      (g.G.Glance.seen l.initial.src).bytes (8 * (l.at + 256 * (3 * l.turns))) (2048 * l.k));
  looks : LooksExactly (16 * l.k) (g.G.Glance.seen l.initial.src) (g.G.Glance.seen l.src);
}
