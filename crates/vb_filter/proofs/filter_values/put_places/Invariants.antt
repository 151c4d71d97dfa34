use Rattle.std.proofs.Common.{◌≡◌, ◌+◌, ◌^◌, ◌<◌, ◌++◌, length, map, get_or, take, drop}
use Rattle.vb_walk.proofs.WordOnes.{ones}
use Rattle.vb_filter.proofs.filter_values.put_places.Given as goal

-- the values so far, and those at the ones that are left
abbrev pub invariant-loop-left : goal.invariant-loop-left
invariant-loop-left g l = record {
  front : (d : g.row.T.Denot) → take l.end l.out
      ++ map (λ i. get_or l.values i d) (ones (length l.values) l.left)
      ≡ take l.len l.fn.out ++ map (λ i. get_or l.values i d) (ones (length l.values) l.keep);
  behind : drop l.end l.out ≡ drop l.end l.fn.out;
  number : l.end + length (ones (length l.values) l.left)
      ≡ l.len + length (ones (length l.values) l.keep);
  clear : l.left < 2 ^ length l.values;
}

abbrev pub decreases-loop-left : goal.decreases-loop-left
decreases-loop-left g l = l.left
