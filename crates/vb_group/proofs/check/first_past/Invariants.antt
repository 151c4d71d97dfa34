use Rattle.std.specs.Option.{option_map}
use Rattle.vb_view.specs.View.{bits_of}
use Rattle.vb_group.specs.Groups.{HaveGroups}
use Rattle.vb_group.proofs.check.first_past.Given as goal

-- the rows so far have codes of groups
abbrev pub invariant-loop-row : goal.invariant-loop-row
invariant-loop-row g l =
    HaveGroups g.C.BitIndex.number l.groups l.codes (option_map bits_of l.mask) l.row
