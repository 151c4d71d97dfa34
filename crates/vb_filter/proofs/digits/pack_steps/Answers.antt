use Rattle.std.proofs.Common.{◌≡◌, inl, inr, ℕ, ◌-◌, ◌^◌, ◌<◌, ◌++◌}
use Rattle.std.proofs.Common.{lit<, sym, ap, subst, ◌∙◌, arith}
use mir.Val.{bool_byte}
use Rattle.std.proofs.lemmas.Bool.{cases_lt}
use Rattle.std.proofs.lemmas.List.{append-nil}
use Rattle.std.proofs.lemmas.Nat.{and_le_l}
use Rattle.vb_bits.specs.Digits.{digits}
use Rattle.vb_bits.proofs.DigitsLemmas.{digits_none}
use Rattle.vb_filter.proofs.PackedDigits.{kept_digits}
use Rattle.vb_filter.proofs.PackedOnes.{kept_digits-zero}
use Rattle.vb_filter.proofs.PackedSteps.{ones_taken, step-some, step-none, none_left, steps_done}
use Rattle.vb_filter.proofs.digits.pack_steps.Goals as goal

pub loop-n-init : goal.loop-n-init
loop-n-init c =
    let mask : ℕ = c.args.mask in
    let rest = kept_digits mask c.args.word 0 64 in
    let none : ones_taken mask 0 ≡ 0 = omega arith in
    record {
      kept = ap (λ k. digits 0 0 k ++ rest) none ∙ ap (λ l. l ++ rest) (digits_none 0 0);
      clear = subst (λ k. 0 < 2 ^ k) (sym none) (lit< tt);
      fits = omega arith;
    }

pub loop-n-preserved : goal.loop-n-preserved
loop-n-preserved c =
    let word : ℕ = c.args.word in
    let mask : ℕ = c.args.mask in
    let packed : ℕ = c.loop-n.packed in
    let left : ℕ = c.loop-n.left in
    let n : ℕ = c.loop-n.n in
    let inv = c.loop-n.invariant in
    let fits : left < 2 ^ 64 = inv.fits in
    let bit = c.lowest_kept-bit.result.0 in
    let rest = c.lowest_kept-bit.result.1 in
    let byte : c.from.result ≡ bool_byte bit = c.from.ensures in
    rw byte (elim (cases_lt 0 left) [
      | inl some ↦ let e = c.lowest_kept-bit.ensures.some some in
          let s = step-some word packed n left mask fits inv.kept inv.clear bit rest some e.0 e.1 in
          record { kept = s.0; clear = s.1; fits = omega (arith, e.1, and_le_l left (left - 1)) }
      | inr none ↦ let gone : left ≡ 0 = omega arith in
          let e = c.lowest_kept-bit.ensures.none gone in
          let s = step-none word packed n left mask fits inv.kept inv.clear bit rest gone e.0 e.1 in
          record { kept = s.0; clear = s.1; fits = omega (arith, e.1) }
    ])

pub returns-clause-kept : goal.returns-clause-kept
returns-clause-kept c =
    let word : ℕ = c.args.word in
    let mask : ℕ = c.args.mask in
    let packed : ℕ = c.loop-n.packed in
    let left : ℕ = c.loop-n.left in
    let n : ℕ = c.loop-n.n in
    let inv = c.loop-n.invariant in
    let fits : left < 2 ^ 64 = inv.fits in
    let gone = steps_done word packed n left mask fits inv.kept inv.clear (omega arith) in
    let all = none_left word packed n left mask fits inv.kept inv.clear gone in
    let front = digits packed 0 (ones_taken mask n) in
    ap (digits packed 0) (sym all) ∙ sym (append-nil front)
    ∙ ap (λ l. front ++ l) (sym (kept_digits-zero word left gone)) ∙ inv.kept

pub returns-clause-clear : goal.returns-clause-clear
returns-clause-clear c =
    let word : ℕ = c.args.word in
    let mask : ℕ = c.args.mask in
    let packed : ℕ = c.loop-n.packed in
    let left : ℕ = c.loop-n.left in
    let n : ℕ = c.loop-n.n in
    let inv = c.loop-n.invariant in
    let fits : left < 2 ^ 64 = inv.fits in
    let gone = steps_done word packed n left mask fits inv.kept inv.clear (omega arith) in
    let all = none_left word packed n left mask fits inv.kept inv.clear gone in
    subst (λ k. packed < 2 ^ k) all inv.clear
