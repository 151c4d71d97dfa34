use Rattle.std.proofs.Common.{true, ◌*◌}
use Rattle.std.specs.List.{zip}
use Rattle.vb_view.specs.View.{bits_of}
use Rattle.vb_aggregate.proofs.WordsLemmas.{TakesFront}
use Rattle.vb_group.proofs.AddsWordLemmas.{ShowsRows}
use Rattle.vb_group.proofs.rows.add_kept.Given as goal

-- the totals have the rows that the words so far select
abbrev pub invariant-loop-t : goal.invariant-loop-t
invariant-loop-t g l =
    TakesFront (ShowsRows g.C.BitIndex.number g.A.Addition.plus g.A.Addition.is_total
    g.A.Addition.skips l.fn.totals) (l.fn.totals, true) (l.totals, true) (bits_of l.fn.mask)
    (zip l.codes l.values) (64 * l.t)
