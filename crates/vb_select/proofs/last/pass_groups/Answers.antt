use Rattle.std.proofs.Common.{◌≡◌, inl, inr, ℕ, ◌+◌, ◌-◌, ◌*◌, ◌/◌, ◌<◌, ◌≤◌, ◌∙◌, ap, arith}
use Rattle.std.proofs.lemmas.Bool.{cases_lt}
use Rattle.vb_bits.specs.Bits.{bit_of}
use Rattle.vb_select.proofs.last.pass_groups.Goals as goal

pub loop-left-preserved : goal.loop-left-preserved
loop-left-preserved c =
    let o = c.args.offset in
    let l : ℕ = c.loop-left.left in
    let n : ℕ = c.args.n in
    let inv = c.loop-left.invariant in
    let more : 64 * n ≤ l = c.loop-left-test.true in
    let some : 0 < l = omega (arith, more, c.requires.some) in
    let whole = inv.whole some in
    let from : 8 * ((o + l) / 8 - 8 * n) ≡ o + (l - 64 * n) = omega (arith, more, whole) in
    record {
      within = omega (arith, inv.within);
      whole = λ _. omega (arith, more, whole);
      passed = λ i lo hi. elim (cases_lt i l) [
        | inl here ↦
            let place : o + i ≡ 8 * ((o + l) / 8 - 8 * n) + (i - (l - 64 * n)) =
            omega (arith, from) in
            ap (bit_of c.args.bytes.now) place ∙ c.digits_of_any.ensures.none
            c.if-digits_of_any-ne0.false (i - (l - 64 * n)) (omega (arith, more))
        | inr past ↦ inv.passed i past hi
      ];
    }
