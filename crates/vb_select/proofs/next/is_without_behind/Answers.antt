use Rattle.std.proofs.Common.{◌≡◌, ℕ, ◌+◌, ◌-◌, ◌*◌, ◌/◌, ◌%◌, ◌^◌, ◌<◌, ◌≤◌, Bool}
use Rattle.std.proofs.Common.{List, refl, subst, arith}
use Rattle.std.specs.Prelude.{◌↔◌}
use Rattle.vb_bits.specs.Bits.{bits, count}
use Rattle.vb_count.specs.Hits.{hits}
use Rattle.vb_count.proofs.HitsLemmas.{count-hits-bits_split}
use Rattle.vb_select.specs.Matches.{ShowsBefore}
use Rattle.vb_select.proofs.NearestLemmas.{any_before, zero_if}
use Rattle.vb_select.proofs.next.is_without_behind.Goals as goal

-- whether any bit is v, by the word at the end
back_any : (v : Bool) (b : List ℕ) (e t y : ℕ) → 64 ≤ e → t < 8
    → ShowsBefore v b e t y → y < 2 ^ 64
    → (0 < y) ↔ (0 < count (hits v (bits b (e - (64 - t)) (64 - t))))
back_any v b e t y many few shows small =
    let end : e ≡ e - (64 - t) + (64 - t) = omega arith in
    any_before v b (e - (64 - t)) (64 - t) t y (subst (λ e. ShowsBefore v b e t y) end shows)
    small (omega arith)

pub returns-then-matches_before-ne0 : goal.returns-then-matches_before-ne0
returns-then-matches_before-ne0 c =
    let b = c.args.bytes.now in let v = c.args.value in
    let o : ℕ = c.args.offset in let n : ℕ = c.args.len in
    let t : ℕ = (8 - (o + n) % 8) % 8 in let z : ℕ = 64 - t in
    let y = c.matches_before in
    let more = c.requires.more in
    let last = back_any v b (o + n) t y.result (omega (arith, more)) (omega arith)
    y.ensures y.type_inv in
    let some = last.0 (omega (arith, c.if-matches_before-ne0.true)) in
    let long : z ≤ n = omega (arith, more) in (
      λ t. absurd cc,
      λ none. absurd (omega (
        arith,
        some,
        none,
        count-hits-bits_split v b o (n - z) n (o + n - z) z (omega (arith, long))
            (omega (arith, long)),
      )),
    )

pub returns : goal.returns
returns c =
    let b = c.args.bytes.now in let v = c.args.value in
    let o : ℕ = c.args.offset in let n : ℕ = c.args.len in
    let t : ℕ = (8 - (o + n) % 8) % 8 in let z : ℕ = 64 - t in
    let r : ℕ = 64 - o % 8 in
    let y = c.matches_before in
    let more = c.requires.more in
    let last = (zero_if _ _ (back_any v b (o + n) t y.result (omega (arith, more)) (omega arith)
    y.ensures y.type_inv)).0 c.if-matches_before-ne0.false in
    let m : ℕ = 64 * ((n - r) / 64) in
    let p : ℕ = 8 * (o / 8 + 8) in
    let q : ℕ = n - r - m in
    let front = count-hits-bits_split v b o r n p (n - r) (omega arith) (omega (arith, more)) in
    let middle = count-hits-bits_split v b p m (n - r) (p + m) q refl (omega arith) in
    let end = count-hits-bits_split v b (o + n - z) (z - q) z (p + m) q
    (omega (arith, more)) (omega (arith, more)) in
    let words = c.are_without.ensures in (
      λ t. omega (arith, front, middle, end, c.requires.none, last, words.0 t),
      λ none. words.1 (omega (arith, none, front, middle)),
    )
