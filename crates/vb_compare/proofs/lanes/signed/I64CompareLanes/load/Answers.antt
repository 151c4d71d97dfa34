-- Written by tools/write-lists from tools/families/lanes.txt.
use Rattle.std.proofs.Common.{length, take, sym, ap, ◌∙◌}
use Rattle.std.proofs.lemmas.List.{map-id, length-take-le}
use mir.Syntax.{w64}
use Rattle.vb_compare.proofs.LaneLemmas.{carried, held}
use Rattle.vb_compare.proofs.lanes.signed.I64CompareLanes.load.Goals as goal

pub returns-clause-numbers : goal.returns-clause-numbers
returns-clause-numbers c =
    let first = c.first_values.ensures in
    carried w64 c.first_values.result first.in_type
    ∙ first.values ∙ sym (map-id (take 64 c.args.values.now))

pub returns-clause-block : goal.returns-clause-block
returns-clause-block c =
    let first = c.first_values.ensures in
    let long = ap length first.values ∙ length-take-le 64 c.args.values.now c.requires in
    held w64 c.first_values.result long first.in_type
