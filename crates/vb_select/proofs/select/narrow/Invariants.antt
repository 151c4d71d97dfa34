use Rattle.std.proofs.Common.{◌≡◌, ◌+◌, ◌-◌, ◌*◌, ◌<◌, ◌≤◌}
use Rattle.vb_bits.specs.Bits.{bits, count}
use Rattle.vb_count.specs.Hits.{hits}
use Rattle.vb_count.specs.Looks.{LooksAtMost}
use Rattle.vb_select.proofs.select.narrow.Given as goal

abbrev pub invariant-loop-stretch : goal.invariant-loop-stretch
invariant-loop-stretch g l = record {
  within : l.stretch.passed + l.stretch.chunks ≤ l.chunks;
  passed : l.n ≡ l.stretch.left + count
      (hits l.value (bits (g.G.Glance.seen l.initial.src).bytes l.at (512 * l.stretch.passed)));
  held : l.stretch.passed + l.stretch.chunks < l.chunks → l.stretch.left < count (hits l.value
      (bits (g.G.Glance.seen l.initial.src).bytes (l.at + 512 * l.stretch.passed)
      (512 * l.stretch.chunks)));
  looks : LooksAtMost (l.chunks - l.stretch.chunks)
      (g.G.Glance.seen l.initial.src) (g.G.Glance.seen l.src);
}

abbrev pub decreases-loop-stretch : goal.decreases-loop-stretch
decreases-loop-stretch g l = l.stretch.chunks
