use Rattle.std.proofs.Common.{◌≡◌, length, subst, arith}
use Rattle.std.specs.Option.{option_map}
use Rattle.vb_view.specs.View.{bits_of}
use Rattle.vb_group.specs.Groups.{HaveGroups}
use Rattle.vb_group.proofs.check.first_past.Goals as goal

pub returns : goal.returns
returns g c =
    let codes = c.args.codes.now in
    let end : c.loop-row.row ≡ length codes = omega arith in
    absurd (c.requires.past (subst (HaveGroups g.C.BitIndex.number c.args.groups codes
    (option_map bits_of c.args.mask)) end c.loop-row.invariant))
