use Rattle.std.proofs.Common.{◌≡◌, ◌+◌, ◌-◌, ◌*◌, ◌≤◌}
use Rattle.vb_bits.specs.Bits.{bits, count}
use Rattle.vb_count.specs.Hits.{hits}
use Rattle.vb_count.specs.Looks.{LooksExactly}
use Rattle.vb_select.proofs.select.pass_chunks.Given as goal

abbrev pub invariant-loop-at : goal.invariant-loop-at
invariant-loop-at g l = record {
  within : l.passed ≤ l.chunks;
  passed : l.n ≡ l.left + count
      (hits l.value (bits (g.G.Glance.seen l.initial.src).bytes l.at (512 * l.passed)));
  looks : LooksExactly l.passed (g.G.Glance.seen l.initial.src) (g.G.Glance.seen l.src);
}

abbrev pub decreases-loop-at : goal.decreases-loop-at
decreases-loop-at g l = l.chunks - l.passed
