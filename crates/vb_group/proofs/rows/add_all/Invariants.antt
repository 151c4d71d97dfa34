use Rattle.std.proofs.Common.{take}
use Rattle.std.specs.List.{zip}
use Rattle.vb_group.specs.Groups.{TriesRows}
use Rattle.vb_group.proofs.rows.add_all.Given as goal

-- the totals have the rows so far
abbrev pub invariant-loop-row : goal.invariant-loop-row
invariant-loop-row g l =
    TriesRows g.C.BitIndex.number g.A.Addition.plus g.A.Addition.is_total g.A.Addition.skips
    l.fn.totals l.totals (take l.row (zip l.codes l.values)) l.good
