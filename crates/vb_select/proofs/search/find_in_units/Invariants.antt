use Rattle.std.proofs.Common.{◌≡◌, ◌+◌, ◌*◌}
use Rattle.vb_bits.specs.Bits.{bits, count}
use Rattle.vb_count.specs.Hits.{hits}
use Rattle.vb_count.specs.Looks.{LooksExactly}
use Rattle.vb_select.proofs.search.find_in_units.Given as goal

abbrev pub invariant-loop-k : goal.invariant-loop-k
invariant-loop-k g l = record {
  passed : l.search.n + count (hits l.search.value
      (bits (g.G.Glance.seen l.initial.src).bytes l.search.offset l.search.from))
      ≡ l.left + count (hits l.search.value (bits (g.G.Glance.seen l.initial.src).bytes
      l.search.offset (l.search.from + 8 * (g.U.Unit.SIZE * l.k))));
  looks : LooksExactly l.k (g.G.Glance.seen l.initial.src) (g.G.Glance.seen l.src);
}
