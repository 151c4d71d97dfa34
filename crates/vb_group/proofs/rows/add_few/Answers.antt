use Rattle.std.proofs.Common.{◌≡◌, ◌+◌, ◌-◌, ℕ, Bool, List, length, take, sym, subst}
use Rattle.std.proofs.Common.{◌∙◌, arith}
use Rattle.std.specs.List.{zip}
use Rattle.std.specs.Prelude.{slice_range}
use Rattle.std.proofs.lemmas.List.{take_all}
use Rattle.vb_bits.specs.Digits.{digits}
use Rattle.vb_bits.specs.Kept.{kept_by}
use Rattle.vb_view.specs.View.{bits_of}
use Rattle.vb_group.specs.Groups.{TriesRows}
use Rattle.vb_group.proofs.ZipLemmas.{length-zip}
use Rattle.vb_group.proofs.rows.add_few.Goals as goal

-- the digits of a word that has all bits
whole : (bits : List Bool) (keep n : ℕ) → length bits ≡ n
    → digits keep 0 n ≡ slice_range bits 0 (0 + n) → digits keep 0 n ≡ bits
whole bits keep n long of_mask = of_mask ∙ take_all (0 + n - 0) bits (omega (arith, long))

pub returns-then-add_word-clause-all : goal.returns-then-add_word-clause-all
returns-then-add_word-clause-all g c =
    let codes = c.args.codes.now in
    let rows = zip codes c.args.values.now in
    let tries = λ (bits : List Bool) (good : Bool). TriesRows g.C.BitIndex.number
    g.A.Addition.plus g.A.Addition.is_total g.A.Addition.skips c.args.totals.now
    c.add_word.new.totals (kept_by bits rows) good in
    subst (tries (bits_of c.args.mask)) c.if-add_word.true
    (subst (λ bits. tries bits c.add_word.result)
    (whole (bits_of c.args.mask) c.view_word.result (length codes) c.requires.mask
    c.view_word.ensures.digits) c.add_word.ensures)

pub returns-else-add_word-clause-front : goal.returns-else-add_word-clause-front
returns-else-add_word-clause-front g c =
    let codes = c.args.codes.now in
    let values = c.args.values.now in
    let rows = zip codes values in
    let mask = bits_of c.args.mask in
    let n = length codes in
    let tries = λ (bits : List Bool) (l : List (g.row.C.Denot × g.row.V.Denot)) (good : Bool).
    TriesRows g.C.BitIndex.number g.A.Addition.plus g.A.Addition.is_total g.A.Addition.skips
    c.args.totals.now c.add_word.new.totals (kept_by bits l) good in
    let all_bits = whole mask c.view_word.result n c.requires.mask c.view_word.ensures.digits
    ∙ sym (take_all n mask (omega (arith, c.requires.mask))) in
    let all_rows = sym (take_all n rows
    (omega (arith, length-zip codes values c.requires.same_len))) in
    subst (tries (take n mask) (take n rows)) c.if-add_word.false
    (subst (λ l. tries (take n mask) l c.add_word.result) all_rows
    (subst (λ bits. tries bits rows c.add_word.result) all_bits c.add_word.ensures))
