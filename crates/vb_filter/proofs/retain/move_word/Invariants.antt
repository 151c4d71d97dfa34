use Rattle.std.proofs.Common.{◌≡◌, ◌+◌, ◌^◌, ◌<◌, ◌≤◌, ◌++◌, length, map, get_or, take, drop}
use Rattle.std.specs.Int.{trailing_zeros, w64}
use Rattle.std.specs.Prelude.{slice_range}
use Rattle.vb_walk.proofs.WordOnes.{ones}
use Rattle.vb_filter.proofs.retain.move_word.Given as goal

-- the values so far, and those at the ones that are left, of which none is in front of the end
abbrev pub invariant-loop-left : goal.invariant-loop-left
invariant-loop-left g l = record {
  front : (d : g.row.T.Denot) → take l.end l.values
      ++ map (λ i. get_or (slice_range l.fn.values l.start (l.start + l.n)) i d) (ones l.n l.left)
      ≡ take l.len l.fn.values
      ++ map (λ i. get_or (slice_range l.fn.values l.start (l.start + l.n)) i d) (ones l.n l.keep);
  behind : drop l.end l.values ≡ drop l.end l.fn.values;
  number : l.end + length (ones l.n l.left) ≡ l.len + length (ones l.n l.keep);
  clear : l.left < 2 ^ l.n;
  later : 0 < l.left → l.end ≤ l.len + trailing_zeros w64 l.left;
}

abbrev pub decreases-loop-left : goal.decreases-loop-left
decreases-loop-left g l = l.left
