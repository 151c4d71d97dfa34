use Rattle.std.proofs.Common.{◌≡◌, ℕ, List, ◌+◌, ◌*◌, ◌<◌, length, slice_index, slice_index_or}
use Rattle.vb_count.specs.Looks.{LooksAtMost}
use Rattle.vb_rank.specs.Tables.{IsChunkFrom}
use Rattle.vb_rank.proofs.side_by_side.chunks_of.Given as goal

abbrev pub invariant-loop-k : goal.invariant-loop-k
invariant-loop-k g l = record {
  long : length l.chunks ≡ 8;
  each : (i : ℕ) (d : List ℕ) → i < l.k → IsChunkFrom (g.G.Glance.seen l.initial.src).bytes
      (l.offset + 512 * slice_index l.blocks i) (slice_index_or l.chunks i d);
  looks : LooksAtMost l.k (g.G.Glance.seen l.initial.src) (g.G.Glance.seen l.src);
}
