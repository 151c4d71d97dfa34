use Rattle.std.proofs.Common.{◌≡◌, ◌+◌, ◌^◌, ◌<◌, length, drop}
use Rattle.vb_walk.proofs.WordOnes.{ones}
use Rattle.vb_expand.proofs.ScatterLemmas.{put_at}
use Rattle.vb_expand.proofs.scatter.scatter_ones.Given as goal

-- the values so far, and those for the indices that are left
abbrev pub invariant-loop-left : goal.invariant-loop-left
invariant-loop-left g l = record {
  items : put_at (ones (length l.fn.out) l.left) (drop l.next l.values) l.out
      ≡ put_at (ones (length l.fn.out) l.places) (drop l.taken l.values) l.fn.out;
  number : l.next + length (ones (length l.fn.out) l.left)
      ≡ l.taken + length (ones (length l.fn.out) l.places);
  clear : l.left < 2 ^ length l.fn.out;
}

abbrev pub decreases-loop-left : goal.decreases-loop-left
decreases-loop-left g l = l.left
