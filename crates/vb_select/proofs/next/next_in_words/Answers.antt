use Rattle.std.proofs.Common.{◌≡◌, ℕ, ◌<◌, ◌+◌, ◌-◌, ◌*◌, ◌%◌, Some, sym}
use Rattle.std.proofs.Common.{arith, subst}
use Rattle.std.specs.Int.{trailing_zeros, w64}
use Rattle.vb_bits.specs.Bits.{bits}
use Rattle.vb_count.specs.Hits.{hits}
use Rattle.vb_select.proofs.NearestLemmas.{Shows, Shows-other, IsNext_later, IsNext-word}
use Rattle.vb_select.proofs.NearestLemmas.{lowest_one, off-passed}
use Rattle.vb_select.proofs.next.next_in_words.Goals as goal

pub overflow_add-result : goal.overflow_add-result
overflow_add-result c =
    let found = c.in-Some.ensures in
    let low = lowest_one c.others.result 64 (omega (arith, found.other, c.others.ensures))
    c.others.type_inv (omega arith) in
    omega (arith, low.0, found.within, found.from, c.requires.window.fits, c.requires.aligned)

pub returns-in-Some : goal.returns-in-Some
returns-in-Some c =
    let b = c.args.bytes.now in let o = c.args.offset in let v = c.args.value in
    let n = c.args.len in
    let found = c.in-Some.ensures in
    let w : ℕ = c.others.result in
    let some : 0 < w = omega (arith, found.other, c.others.ensures) in
    let low = lowest_one w 64 some c.others.type_inv (omega arith) in
    let a : ℕ = 8 * (c.in-Some.other.behind - 8) - o in
    let place : o + a ≡ 8 * (c.in-Some.other.behind - 8) =
    omega (arith, found.from, c.requires.aligned) in
    let shows = subst (λ y. Shows v b o a 64 y) (sym c.others.ensures)
    (Shows-other v b o a _ _ c.in-Some.other found place) in
    IsNext_later (hits v (bits b o n)) c.args.from a (Some (a + trailing_zeros w64 w))
    (omega (arith, found.from, c.requires.aligned))
    (λ i lo hi. off-passed v b o n _ _ found.passed i (omega (arith, c.requires.aligned))
    (omega arith))
    (IsNext-word v b o n a 64 w shows some c.others.type_inv (omega arith)
    (omega (arith, low.0, found.within, c.requires.aligned, c.requires.within)))

pub returns-in-None : goal.returns-in-None
returns-in-None c =
    let b = c.args.bytes.now in let o = c.args.offset in let v = c.args.value in
    let n = c.args.len in let a = c.args.from in
    IsNext_later (hits v (bits b o n)) a (n - (n - a) % 64) c.next_in_rest.result
    (omega (arith, c.requires.within))
    (λ i lo hi. off-passed v b o n _ _ c.in-None.ensures i
    (omega (arith, c.requires.aligned))
    (omega (arith, c.requires.aligned, c.requires.within)))
    c.next_in_rest.ensures
