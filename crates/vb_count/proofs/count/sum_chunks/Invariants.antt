use Rattle.std.proofs.Common.{◌≡◌, ◌*◌}
use Rattle.vb_bits.specs.Bits.{bits, count}
use Rattle.vb_count.specs.Looks.{LooksExactly}
use Rattle.vb_count.proofs.count.sum_chunks.Given as goal

abbrev pub invariant-loop-k : goal.invariant-loop-k
invariant-loop-k g l = record {
  value : l.sum ≡ count (bits (g.G.Glance.seen l.initial.src).bytes (8 * l.at) (512 * l.k));
  looks : LooksExactly l.k (g.G.Glance.seen l.initial.src) (g.G.Glance.seen l.src);
}
