use Rattle.std.proofs.Common.{◌≡◌, ◌+◌, ◌*◌, ◌/◌, ◌%◌, true, false, [], length, refl, arith, subst}
use Rattle.std.proofs.Common.{sym, ◌∙◌}
use Rattle.std.specs.List.{zip}
use Rattle.std.specs.Prelude.{slice_range}
use Rattle.vb_view.specs.View.{bits_of}
use Rattle.vb_aggregate.proofs.WordsLemmas.{TakesFront, front_all}
use Rattle.vb_group.proofs.AddsWordLemmas.{ShowsRows, rows_more, rows_front}
use Rattle.vb_group.proofs.TriesLemmas.{tries_nothing}
use Rattle.vb_group.proofs.ZipLemmas.{length-zip}
use Rattle.vb_group.proofs.rows.add_kept.Goals as goal

pub loop-t-preserved : goal.loop-t-preserved
loop-t-preserved g c =
    let number = g.C.BitIndex.number in
    let plus = g.A.Addition.plus in
    let is_total = g.A.Addition.is_total in
    let skips = g.A.Addition.skips in
    let start = c.args.totals.now in
    let mask = bits_of c.args.mask in
    let codes = c.args.codes.now in
    let values = c.args.values.now in
    let rows = zip codes values in
    let t = c.loop-t.t in
    let next = c.add_word.new.totals in
    let shows = ShowsRows number plus is_total skips start in
    let added : TakesFront shows (start, true) (next, c.add_word.result) mask rows (64 * t + 64) =
    rows_more number plus is_total skips start c.loop-t.totals mask codes values
    c.requires.same_len c.requires.mask (64 * t) 64 c.view_word-keep.result next
    c.add_word.result (slice_range codes (64 * t) (64 * t + 64))
    (slice_range values (64 * t) (64 * t + 64)) (omega (arith, c.len-whole.ensures))
    c.view_word-keep.ensures.digits refl refl c.add_word.ensures c.loop-t.invariant in
    let end : 64 * t + 64 ≡ 64 * (t + 1) = omega arith in
    subst (TakesFront shows (start, true) (next, true) mask rows) end
    (subst (λ b. TakesFront shows (start, true) (next, b) mask rows (64 * t + 64))
    c.if-not-add_word.false added)

pub returns-then-not-add_word-clause-front : goal.returns-then-not-add_word-clause-front
returns-then-not-add_word-clause-front g c =
    let number = g.C.BitIndex.number in
    let plus = g.A.Addition.plus in
    let is_total = g.A.Addition.is_total in
    let skips = g.A.Addition.skips in
    let start = c.args.totals.now in
    let mask = bits_of c.args.mask in
    let codes = c.args.codes.now in
    let values = c.args.values.now in
    let rows = zip codes values in
    let t = c.loop-t.t in
    let next = c.add_word.new.totals in
    let shows = ShowsRows number plus is_total skips start in
    let added : TakesFront shows (start, true) (next, c.add_word.result) mask rows (64 * t + 64) =
    rows_more number plus is_total skips start c.loop-t.totals mask codes values
    c.requires.same_len c.requires.mask (64 * t) 64 c.view_word-keep.result next
    c.add_word.result (slice_range codes (64 * t) (64 * t + 64))
    (slice_range values (64 * t) (64 * t + 64)) (omega (arith, c.len-whole.ensures))
    c.view_word-keep.ensures.digits refl refl c.add_word.ensures c.loop-t.invariant in
    rows_front number plus is_total skips start next mask codes values c.requires.same_len
    c.requires.mask (64 * t + 64) false
    (subst (λ b. TakesFront shows (start, true) (next, b) mask rows (64 * t + 64))
    c.if-not-add_word.true added)

pub returns-then-add_word-clause-all : goal.returns-then-add_word-clause-all
returns-then-add_word-clause-all g c =
    let number = g.C.BitIndex.number in
    let plus = g.A.Addition.plus in
    let is_total = g.A.Addition.is_total in
    let skips = g.A.Addition.skips in
    let start = c.args.totals.now in
    let mask = bits_of c.args.mask in
    let codes = c.args.codes.now in
    let values = c.args.values.now in
    let rows = zip codes values in
    let state = c.loop-t.totals in
    let whole = c.len-whole.result / 64 in
    let n = c.len-n.result % 64 in
    let next = c.add_word-2.new.totals in
    let end : c.loop-t.t ≡ whole = omega arith in
    let shows = ShowsRows number plus is_total skips start in
    let added : TakesFront shows (start, true) (next, c.add_word-2.result) mask rows
    (64 * whole + n) =
    rows_more number plus is_total skips start state mask codes values c.requires.same_len
    c.requires.mask (64 * whole) n c.view_word-keep-2.result next c.add_word-2.result
    (slice_range codes (64 * whole) (64 * whole + n))
    (slice_range values (64 * whole) (64 * whole + n))
    (omega (arith, c.len-whole.ensures, c.len-n.ensures)) c.view_word-keep-2.ensures.digits refl
    refl c.add_word-2.ensures (subst (λ k. TakesFront shows (start, true) (state, true) mask rows
    (64 * k)) end c.loop-t.invariant) in
    let long : length rows ≡ length mask =
    length-zip codes values c.requires.same_len ∙ sym c.requires.mask in
    front_all shows (start, true) (next, true) mask rows long (64 * whole + n)
    (omega (arith, c.len-whole.ensures, c.len-n.ensures))
    (subst (λ b. TakesFront shows (start, true) (next, b) mask rows (64 * whole + n))
    c.if-add_word.true added) [] (tries_nothing number plus is_total skips start)

pub returns-else-add_word-clause-front : goal.returns-else-add_word-clause-front
returns-else-add_word-clause-front g c =
    let number = g.C.BitIndex.number in
    let plus = g.A.Addition.plus in
    let is_total = g.A.Addition.is_total in
    let skips = g.A.Addition.skips in
    let start = c.args.totals.now in
    let mask = bits_of c.args.mask in
    let codes = c.args.codes.now in
    let values = c.args.values.now in
    let rows = zip codes values in
    let state = c.loop-t.totals in
    let whole = c.len-whole.result / 64 in
    let n = c.len-n.result % 64 in
    let next = c.add_word-2.new.totals in
    let end : c.loop-t.t ≡ whole = omega arith in
    let shows = ShowsRows number plus is_total skips start in
    let added : TakesFront shows (start, true) (next, c.add_word-2.result) mask rows
    (64 * whole + n) =
    rows_more number plus is_total skips start state mask codes values c.requires.same_len
    c.requires.mask (64 * whole) n c.view_word-keep-2.result next c.add_word-2.result
    (slice_range codes (64 * whole) (64 * whole + n))
    (slice_range values (64 * whole) (64 * whole + n))
    (omega (arith, c.len-whole.ensures, c.len-n.ensures)) c.view_word-keep-2.ensures.digits refl
    refl c.add_word-2.ensures (subst (λ k. TakesFront shows (start, true) (state, true) mask rows
    (64 * k)) end c.loop-t.invariant) in
    rows_front number plus is_total skips start next mask codes values c.requires.same_len
    c.requires.mask (64 * whole + n) false
    (subst (λ b. TakesFront shows (start, true) (next, b) mask rows (64 * whole + n))
    c.if-add_word.false added)
