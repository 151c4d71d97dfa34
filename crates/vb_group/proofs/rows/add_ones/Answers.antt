use Rattle.std.proofs.Common.{ℕ, ◌-◌, ◌^◌, ◌<◌, ◌≤◌, true, ◌&&◌, [], ◌∷◌, length, get_or, sym, ap}
use Rattle.std.proofs.Common.{subst, ◌∙◌, arith}
use Rattle.std.specs.Int.{trailing_zeros, w64}
use Rattle.std.specs.Int.Bits.{bit_and}
use Rattle.std.specs.List.{zip}
use Rattle.vb_bits.specs.Digits.{digits}
use Rattle.vb_bits.specs.Kept.{kept_by}
use Rattle.vb_walk.proofs.OnesLemmas.{lowest_below}
use Rattle.vb_aggregate.proofs.OnesLemmas.{TakesOnes, takes_none, takes_more, takes_all}
use Rattle.vb_group.specs.Groups.{TriesRows}
use Rattle.vb_group.proofs.AddsWordLemmas.{ShowsRows}
use Rattle.vb_group.proofs.TriesLemmas.{tries_nothing, tries_one, tries_both, and_swap}
use Rattle.vb_group.proofs.ZipLemmas.{length-zip, get_or-zip}
use Rattle.vb_group.proofs.rows.add_ones.Goals as goal

pub loop-left-init : goal.loop-left-init
loop-left-init g c =
    let codes = c.args.codes.now in
    let values = c.args.values.now in
    let start = c.args.totals.now in
    let same = length-zip codes values c.requires.same_len in
    takes_none (ShowsRows g.C.BitIndex.number g.A.Addition.plus g.A.Addition.is_total
    g.A.Addition.skips start) (start, true) (zip codes values) c.args.keep
    (subst (λ n. c.args.keep < 2 ^ n) (sym same) c.requires.clear)

pub loop-left-preserved : goal.loop-left-preserved
loop-left-preserved g c =
    let number = g.C.BitIndex.number in
    let plus = g.A.Addition.plus in
    let is_total = g.A.Addition.is_total in
    let skips = g.A.Addition.skips in
    let codes = c.args.codes.now in
    let values = c.args.values.now in
    let rows = zip codes values in
    let same = length-zip codes values c.requires.same_len in
    let left : ℕ = c.loop-left.left in
    let code = c.index-codes-row.result in
    let value = c.index-values-row.result in
    let start = c.args.totals.now in
    let state = c.loop-left.totals in
    let next = c.add_row-has_total.new.totals in
    let some : 0 < left = omega (arith, c.loop-left-test.true) in
    let few : length rows ≤ 64 = omega (arith, same, c.requires.few) in
    let inside = lowest_below (length rows) left some c.loop-left.invariant.clear few in
    let place : ℕ = trailing_zeros w64 left in
    let here : place < length codes = omega (arith, inside, same) in
    let one = tries_one number plus is_total skips state next code value c.add_row-has_total.result
    c.add_row-has_total.ensures.added c.add_row-has_total.ensures.in_type
    c.add_row-has_total.ensures.group
    c.add_row-has_total.ensures.past c.add_row-has_total.ensures.skips in
    subst (λ b. TakesOnes (ShowsRows number plus is_total skips start) (start, true) (next, b) rows
    c.args.keep (bit_and left (left - 1)))
    (and_swap c.loop-left.good c.add_row-has_total.result ∙ sym c.both-good.ensures)
    (takes_more c.loop-left.invariant (code, value)
    (next, c.loop-left.good && c.add_row-has_total.result) some few
    (λ d. get_or-zip codes values place code value d here c.requires.same_len
    ∙ ap (λ x. (x, get_or values place value)) (sym c.index-codes-row.is)
    ∙ ap (λ x. (code, x)) (sym c.index-values-row.is))
    (λ xs so_far. tries_both number plus is_total skips start state next xs ((code, value) ∷ [])
    c.loop-left.good c.add_row-has_total.result so_far one))

pub returns : goal.returns
returns g c =
    let codes = c.args.codes.now in
    let values = c.args.values.now in
    let rows = zip codes values in
    let start = c.args.totals.now in
    let same = length-zip codes values c.requires.same_len in
    let clear : c.args.keep < 2 ^ length rows =
    subst (λ n. c.args.keep < 2 ^ n) (sym same) c.requires.clear in
    subst (λ n. TriesRows g.C.BitIndex.number g.A.Addition.plus g.A.Addition.is_total
    g.A.Addition.skips start c.loop-left.totals (kept_by (digits c.args.keep 0 n) rows)
    c.loop-left.good) same
    (takes_all c.loop-left.invariant (omega (arith, c.loop-left-test.false)) clear []
    (tries_nothing g.C.BitIndex.number g.A.Addition.plus g.A.Addition.is_total
    g.A.Addition.skips start))

pub offset_bounds-codes-row : goal.offset_bounds-codes-row
offset_bounds-codes-row g c =
    let codes = c.args.codes.now in
    let values = c.args.values.now in
    let same = length-zip codes values c.requires.same_len in
    let left : ℕ = c.loop-left.left in
    let some : 0 < left = omega (arith, c.loop-left-test.true) in
    let few : length (zip codes values) ≤ 64 = omega (arith, same, c.requires.few) in
    let inside =
    lowest_below (length (zip codes values)) left some c.loop-left.invariant.clear few in
    omega (arith, inside, same, c.requires.same_len)

pub offset_bounds-values-row : goal.offset_bounds-values-row
offset_bounds-values-row g c =
    let codes = c.args.codes.now in
    let values = c.args.values.now in
    let same = length-zip codes values c.requires.same_len in
    let left : ℕ = c.loop-left.left in
    let some : 0 < left = omega (arith, c.loop-left-test.true) in
    let few : length (zip codes values) ≤ 64 = omega (arith, same, c.requires.few) in
    let inside =
    lowest_below (length (zip codes values)) left some c.loop-left.invariant.clear few in
    omega (arith, inside, same, c.requires.same_len)

pub bounds-codes-row : goal.bounds-codes-row
bounds-codes-row g c =
    let codes = c.args.codes.now in
    let values = c.args.values.now in
    let same = length-zip codes values c.requires.same_len in
    let left : ℕ = c.loop-left.left in
    let some : 0 < left = omega (arith, c.loop-left-test.true) in
    let few : length (zip codes values) ≤ 64 = omega (arith, same, c.requires.few) in
    let inside =
    lowest_below (length (zip codes values)) left some c.loop-left.invariant.clear few in
    omega (arith, inside, same, c.requires.same_len)

pub bounds-values-row : goal.bounds-values-row
bounds-values-row g c =
    let codes = c.args.codes.now in
    let values = c.args.values.now in
    let same = length-zip codes values c.requires.same_len in
    let left : ℕ = c.loop-left.left in
    let some : 0 < left = omega (arith, c.loop-left-test.true) in
    let few : length (zip codes values) ≤ 64 = omega (arith, same, c.requires.few) in
    let inside =
    lowest_below (length (zip codes values)) left some c.loop-left.invariant.clear few in
    omega (arith, inside, same, c.requires.same_len)
