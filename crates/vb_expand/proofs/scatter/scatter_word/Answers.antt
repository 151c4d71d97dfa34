use Rattle.std.proofs.Common.{◌≡◌, ℕ, ◌+◌, ◌-◌, length, take, drop, sym, ap, ◌∙◌, arith}
use Rattle.std.proofs.Common.{length-drop}
use Rattle.vb_bits.specs.Digits.{digits}
use Rattle.vb_bits.proofs.DigitsLemmas.{length-digits, count-digits_below}
use Rattle.vb_expand.proofs.ScatterLemmas.{scattered_all}
use Rattle.vb_expand.proofs.scatter.scatter_word.Goals as goal

pub returns-then-count-out-clause-scattered : goal.returns-then-count-out-clause-scattered
returns-then-count-out-clause-scattered g c =
    let out = c.args.out.now in
    let n : ℕ = length out in
    let places : ℕ = c.args.places in
    let taken : ℕ = c.args.taken in
    let values = c.args.values.now in
    let rest = drop taken values in
    let bits = digits places 0 n in
    let full = count-digits_below places n c.requires.clear in
    let len : taken + n - taken ≡ n = omega arith in
    c.copy_from_slice.ensures.after ∙ ap (λ k. take k rest) (omega arith)
    ∙ sym (scattered_all bits rest out (sym (length-digits places 0 n))
    (omega (arith, full, length-digits places 0 n, c.if-count-out.true))
    (omega (arith, full, length-drop taken values, c.requires.enough)))
