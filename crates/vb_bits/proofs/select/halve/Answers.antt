use Rattle.std.proofs.Common.{◌≡◌, ◌+◌, ◌-◌, ◌*◌, ◌%◌, ◌^◌, ap, subst, arith, zero-add, Some}
use Rattle.std.specs.Prelude.{bit_and, count_ones}
use Rattle.vb_bits.specs.Bits.{count, Selects}
use Rattle.vb_bits.specs.Digits.{digits}
use Rattle.vb_bits.proofs.DigitsLemmas.{count-digits-add, count-digits_none}
use Rattle.vb_bits.proofs.SelectsLemmas.{Selects-digits, digits_low, digits_shifted, ones_low}
use Rattle.vb_bits.proofs.select.halve.Goals as goal

pub returns-then-n-ones-clause-here : goal.returns-then-n-ones-clause-here
returns-then-n-ones-clause-here c =
    let word = c.args.word in let half = c.args.half in
    omega (arith, ones_low word half (omega arith), ap count (digits_low word half (omega arith)))

pub returns-then-n-ones-clause-found : goal.returns-then-n-ones-clause-found
returns-then-n-ones-clause-found c = λ p s.
    let word = c.args.word in let half = c.args.half in
    Selects-digits word (2 * half) 0 half c.args.n c.args.n p
    (omega arith) (omega (arith, count-digits_none word 0))
    (subst (λ l. Selects l c.args.n (Some p)) (digits_low word half (omega arith)) s)

pub returns-else-n-ones-clause-here : goal.returns-else-n-ones-clause-here
returns-else-n-ones-clause-here c =
    let word = c.args.word in let half = c.args.half in
    let double : 2 * half ≡ half + half = omega arith in
    let both = ap (λ k. count (digits word 0 k)) double in
    omega (
      arith,
      ones_low word half (omega arith),
      ap count (digits_shifted word half half),
      both,
      count-digits-add word 0 half half,
      ap (λ a. count (digits word a half)) (zero-add half),
    )

pub returns-else-n-ones-clause-found : goal.returns-else-n-ones-clause-found
returns-else-n-ones-clause-found c = λ p s.
    let word = c.args.word in let half = c.args.half in
    let left = c.args.n - count_ones (bit_and word (1 * 2 ^ half % 2 ^ 64 - 1)) in
    Selects-digits word (2 * half) half half c.args.n left p
    (omega arith) (omega (arith, ones_low word half (omega arith)))
    (subst (λ l. Selects l left (Some p)) (digits_shifted word half half) s)
