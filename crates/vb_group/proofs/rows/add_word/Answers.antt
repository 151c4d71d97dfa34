use Rattle.std.proofs.Common.{◌^◌, ◌<◌, true, length, sym, ap, subst, ◌∙◌, arith}
use Rattle.std.specs.List.{zip}
use Rattle.vb_bits.specs.Digits.{digits}
use Rattle.vb_bits.specs.Kept.{kept_by}
use Rattle.vb_aggregate.proofs.OnesLemmas.{kept_full, kept_zero}
use Rattle.vb_group.specs.Groups.{TriesRows}
use Rattle.vb_group.proofs.TriesLemmas.{tries_nothing}
use Rattle.vb_group.proofs.ZipLemmas.{length-zip}
use Rattle.vb_group.proofs.rows.add_word.Goals as goal

pub returns-then-keep-eq0 : goal.returns-then-keep-eq0
returns-then-keep-eq0 g c =
    let start = c.args.totals.now in
    let rows = zip c.args.codes.now c.args.values.now in
    let same = length-zip c.args.codes.now c.args.values.now c.requires.same_len in
    let clear : c.args.keep < 2 ^ length rows =
    subst (λ n. c.args.keep < 2 ^ n) (sym same) c.requires.clear in
    let none = kept_zero c.args.keep rows c.if-keep-eq0.true clear in
    subst (λ l. TriesRows g.C.BitIndex.number g.A.Addition.plus g.A.Addition.is_total
    g.A.Addition.skips start start l true)
    (sym none ∙ ap (λ n. kept_by (digits c.args.keep 0 n) rows) same)
    (tries_nothing g.C.BitIndex.number g.A.Addition.plus g.A.Addition.is_total
    g.A.Addition.skips start)

pub returns-then-keep-codes : goal.returns-then-keep-codes
returns-then-keep-codes g c =
    let rows = zip c.args.codes.now c.args.values.now in
    let same = length-zip c.args.codes.now c.args.values.now c.requires.same_len in
    let clear : c.args.keep < 2 ^ length rows =
    subst (λ n. c.args.keep < 2 ^ n) (sym same) c.requires.clear in
    let all = kept_full c.args.keep rows (omega (arith, same)) clear in
    subst (λ l. TriesRows g.C.BitIndex.number g.A.Addition.plus g.A.Addition.is_total
    g.A.Addition.skips c.args.totals.now c.add_all.new.totals l c.add_all.result)
    (sym all ∙ ap (λ n. kept_by (digits c.args.keep 0 n) rows) same) c.add_all.ensures
