-- The number of digits of numbers.
use Rattle.std.proofs.Common.{◌≡◌, ℕ, ◌+◌, ◌/◌, ◌^◌, ◌<◌}
use Rattle.std.proofs.Common.{◌≤◌, length}
use Rattle.std.proofs.Common.{ap, ◌∙◌, arith}
use Rattle.itoa.proofs.Decimal.{length_four, length_one, length_two, length_pair}
use Rattle.std.specs.Fmt.{decimal}
use Rattle.std.proofs.lemmas.Fmt.{length-decimal-le}

-- a number of 64 bits has at most 20 digits
pub short-decimal : (n : ℕ) → n < 2 ^ 64 → length (decimal n) ≤ 20
short-decimal n h = length-decimal-le 20 n (omega arith) (omega (arith, h)) h

-- the number of digits of a number below 10000
pub length_three : (n : ℕ) → 100 ≤ n → n < 1000 → length (decimal n) ≡ 3
length_three n low high = length_pair n low (omega (arith, high)) ∙ ap (λ k. k + 2)
    (length_one (n / 100) (omega (arith, high)))

pub length_fourth : (n : ℕ) → 1000 ≤ n → n < 10000 → length (decimal n) ≡ 4
length_fourth n low high = length_pair n (omega (arith, low)) (omega (arith, high))
    ∙ ap (λ k. k + 2) (length_two (n / 100) (omega (arith, low)) (omega (arith, high)))

-- a number of more than eight digits has eight digits more than its quotient by 10 ^ 8
pub length_eight : (n : ℕ) → 10 ^ 8 ≤ n → n < 2 ^ 64
    → length (decimal n) ≡ 8 + length (decimal (n / 10 ^ 8))
length_eight n low high =
    let same : n / 10000 / 10000 ≡ n / 10 ^ 8 = omega arith in
    omega (
      arith,
      length_four n (omega (arith, low)) high,
      length_four (n / 10000) (omega (arith, low)) (omega (arith, high)),
      ap (λ k. length (decimal k)) same,
    )

-- the length of a number, for `#[tactic(auto, using(..))]`
pub ruleset lengths = (short-decimal)

-- the number of digits of a number below 10000, for `#[tactic(auto, using(..))]`
pub ruleset counts = (length_one, length_two, length_three, length_fourth)
