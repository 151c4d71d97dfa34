use Rattle.std.proofs.Common.{◌≡◌, ℕ, List, Option, ◌+◌, ◌*◌, ◌<◌, length}
use Rattle.std.proofs.Common.{slice_index, slice_index_or}
use Rattle.vb_bits.specs.Bits.{bits, Selects}
use Rattle.vb_count.specs.Looks.{LooksAtMost}
use Rattle.vb_count.specs.Hits.{hits}
use Rattle.vb_rank.specs.Tables.{block_counts, BeginsBefore}
use Rattle.vb_rank.proofs.side_by_side.select_each_from.Given as goal

abbrev pub invariant-loop-k : goal.invariant-loop-k
invariant-loop-k g l = record {
  long : length l.places ≡ 8;
  each : (t : List ℕ) → t ≡ block_counts (bits (g.G.Glance.seen l.fn.src).bytes l.offset l.len)
      → (i : ℕ) (d : Option ℕ) → i < l.k
      → BeginsBefore 512 l.value t (slice_index l.ns i) (slice_index l.blocks i)
      (slice_index l.befores i)
      → Selects (hits l.value (bits (g.G.Glance.seen l.fn.src).bytes l.offset l.len))
      (slice_index l.ns i) (slice_index_or l.places i d);
  looks : LooksAtMost (8 + 16 * l.k) (g.G.Glance.seen l.fn.src) (g.G.Glance.seen l.src);
}
