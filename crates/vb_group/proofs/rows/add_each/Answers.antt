use Rattle.std.proofs.Common.{true, ◌+◌, take, subst, arith}
use Rattle.std.specs.List.{zip}
use Rattle.std.proofs.lemmas.List.{take_all}
use Rattle.vb_group.specs.Groups.{TriesRows}
use Rattle.vb_group.proofs.TriesLemmas.{tries_nothing, tries_one, tries_row}
use Rattle.vb_group.proofs.ZipLemmas.{length-zip}
use Rattle.vb_group.proofs.rows.add_each.Goals as goal

pub loop-row-init : goal.loop-row-init
loop-row-init g c =
    tries_nothing g.C.BitIndex.number g.A.Addition.plus g.A.Addition.is_total g.A.Addition.skips
    c.args.totals.now

pub loop-row-preserved : goal.loop-row-preserved
loop-row-preserved g c =
    let number = g.C.BitIndex.number in
    let plus = g.A.Addition.plus in
    let is_total = g.A.Addition.is_total in
    let skips = g.A.Addition.skips in
    let start = c.args.totals.now in
    let state = c.loop-row.totals in
    let next = c.add_row.new.totals in
    let codes = c.args.codes.now in
    let values = c.args.values.now in
    let row = c.loop-row.row in
    let code = c.index-codes-row.result in
    let value = c.index-values-row.result in
    let good = c.add_row.result in
    subst (TriesRows number plus is_total skips start next (take (row + 1) (zip codes values)))
    c.if-not-add_row.false
    (tries_row number plus is_total skips start state next codes values row code value true good
    c.requires.same_len (omega arith) c.index-codes-row.is c.index-values-row.is
    c.loop-row.invariant (tries_one number plus is_total skips state next code value good
    c.add_row.ensures.added c.add_row.ensures.in_type c.add_row.ensures.group
    c.add_row.ensures.past c.add_row.ensures.skips))

pub returns-then-not-add_row-clause-front : goal.returns-then-not-add_row-clause-front
returns-then-not-add_row-clause-front g c =
    let number = g.C.BitIndex.number in
    let plus = g.A.Addition.plus in
    let is_total = g.A.Addition.is_total in
    let skips = g.A.Addition.skips in
    let start = c.args.totals.now in
    let state = c.loop-row.totals in
    let next = c.add_row.new.totals in
    let codes = c.args.codes.now in
    let values = c.args.values.now in
    let row = c.loop-row.row in
    let code = c.index-codes-row.result in
    let value = c.index-values-row.result in
    let good = c.add_row.result in
    subst (TriesRows number plus is_total skips start next (take (row + 1) (zip codes values)))
    c.if-not-add_row.true
    (tries_row number plus is_total skips start state next codes values row code value true good
    c.requires.same_len (omega arith) c.index-codes-row.is c.index-values-row.is
    c.loop-row.invariant (tries_one number plus is_total skips state next code value good
    c.add_row.ensures.added c.add_row.ensures.in_type c.add_row.ensures.group
    c.add_row.ensures.past c.add_row.ensures.skips))

pub returns-clause-all : goal.returns-clause-all
returns-clause-all g c =
    let rows = zip c.args.codes.now c.args.values.now in
    let same = length-zip c.args.codes.now c.args.values.now c.requires.same_len in
    subst (λ l. TriesRows g.C.BitIndex.number g.A.Addition.plus g.A.Addition.is_total
    g.A.Addition.skips c.args.totals.now c.loop-row.totals l true)
    (take_all c.loop-row.row rows (omega (arith, same))) c.loop-row.invariant
