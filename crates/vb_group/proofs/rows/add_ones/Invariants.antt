use Rattle.std.proofs.Common.{true}
use Rattle.std.specs.List.{zip}
use Rattle.vb_aggregate.proofs.OnesLemmas.{TakesOnes}
use Rattle.vb_group.proofs.AddsWordLemmas.{ShowsRows}
use Rattle.vb_group.proofs.rows.add_ones.Given as goal

-- the totals have the rows at the ones of `keep` that are no longer in `left`
abbrev pub invariant-loop-left : goal.invariant-loop-left
invariant-loop-left g l =
    TakesOnes (ShowsRows g.C.BitIndex.number g.A.Addition.plus g.A.Addition.is_total
    g.A.Addition.skips l.fn.totals) (l.fn.totals, true) (l.totals, l.good) (zip l.codes l.values)
    l.fn.keep l.left

abbrev pub decreases-loop-left : goal.decreases-loop-left
decreases-loop-left g l = l.left
