use Rattle.std.proofs.Common.{List, ◌++◌, take}
use Rattle.vb_aggregate.proofs.fold.fold_all.Given as goal

-- the values so far
abbrev pub invariant-loop-value : goal.invariant-loop-value
invariant-loop-value g l = (xs : List g.row.T.Denot) → g.F.Fold.shows l.fn.start xs
    → g.F.Fold.shows l.state (xs ++ take l.value-index l.values)
