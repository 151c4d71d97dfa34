use Rattle.std.proofs.Common.{◌+◌, take, sym, subst, ◌∙◌}
use Rattle.std.proofs.Common.{arith}
use Rattle.std.specs.List.{zip}
use Rattle.std.proofs.lemmas.List.{take_all}
use Rattle.vb_group.specs.Groups.{TriesRows}
use Rattle.vb_group.proofs.TriesLemmas.{tries_nothing, tries_one, tries_row, and_swap}
use Rattle.vb_group.proofs.ZipLemmas.{length-zip}
use Rattle.vb_group.proofs.rows.add_all.Goals as goal

pub loop-row-init : goal.loop-row-init
loop-row-init g c =
    tries_nothing g.C.BitIndex.number g.A.Addition.plus g.A.Addition.is_total g.A.Addition.skips
    c.args.totals.now

pub loop-row-preserved : goal.loop-row-preserved
loop-row-preserved g c =
    let number = g.C.BitIndex.number in
    let plus = g.A.Addition.plus in
    let is_total = g.A.Addition.is_total in
    let skips = g.A.Addition.skips in
    let state = c.loop-row.totals in
    let next = c.add_row-has_total.new.totals in
    let code = c.index-codes-row.result in
    let value = c.index-values-row.result in
    subst (TriesRows number plus is_total skips c.args.totals.now next
    (take (c.loop-row.row + 1) (zip c.args.codes.now c.args.values.now)))
    (and_swap c.loop-row.good c.add_row-has_total.result ∙ sym c.both-good.ensures)
    (tries_row number plus is_total skips c.args.totals.now state next c.args.codes.now
    c.args.values.now c.loop-row.row code value c.loop-row.good c.add_row-has_total.result
    c.requires.same_len (omega arith) c.index-codes-row.is c.index-values-row.is
    c.loop-row.invariant (tries_one number plus is_total skips state next code value
    c.add_row-has_total.result c.add_row-has_total.ensures.added c.add_row-has_total.ensures.in_type
    c.add_row-has_total.ensures.group
    c.add_row-has_total.ensures.past c.add_row-has_total.ensures.skips))

pub returns : goal.returns
returns g c =
    let rows = zip c.args.codes.now c.args.values.now in
    let same = length-zip c.args.codes.now c.args.values.now c.requires.same_len in
    subst (λ l. TriesRows g.C.BitIndex.number g.A.Addition.plus g.A.Addition.is_total
    g.A.Addition.skips c.args.totals.now c.loop-row.totals l c.loop-row.good)
    (take_all c.loop-row.row rows (omega (arith, same))) c.loop-row.invariant
