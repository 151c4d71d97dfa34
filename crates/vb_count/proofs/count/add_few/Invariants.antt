use Rattle.std.proofs.Common.{◌≡◌, ◌+◌, ◌*◌}
use Rattle.vb_bits.specs.Bits.{bits, count}
use Rattle.vb_count.specs.Looks.{LooksExactly}
use Rattle.vb_count.proofs.count.add_few.Given as goal

abbrev pub invariant-loop-k : goal.invariant-loop-k
invariant-loop-k g l = record {
  value : l.sum
      ≡ l.ones + count (bits (g.G.Glance.seen l.initial.src).bytes (8 * l.at) (1024 * l.k));
  looks : LooksExactly (2 * l.k) (g.G.Glance.seen l.initial.src) (g.G.Glance.seen l.src);
}
