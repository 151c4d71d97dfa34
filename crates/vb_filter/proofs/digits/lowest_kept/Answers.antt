use Rattle.std.proofs.Common.{◌≡◌, ℕ, ◌+◌, ◌-◌, ◌%◌, ◌^◌, ◌<◌, nat_eq, ap, ◌∙◌, arith}
use mathlib.Core.Bool.{not}
use Rattle.std.proofs.lemmas.Nat.{pow_pos}
use Rattle.std.proofs.lemmas.Nat.Bits.{and_pow, bit_at-lt}
use Rattle.std.specs.Int.{bit_at, trailing_zeros, w64}
use Rattle.std.specs.Int.Bits.{bit_and, bit_xor}
use Rattle.vb_filter.proofs.PackedSteps.{lowest_alone, tested}
use Rattle.vb_filter.proofs.digits.lowest_kept.Goals as goal

pub returns-clause-some : goal.returns-clause-some
returns-clause-some c some =
    let word : ℕ = c.args.word in
    let left : ℕ = c.args.left in
    let t : ℕ = trailing_zeros w64 left in
    let fits : left < 2 ^ 64 = omega arith in
    let less : (left + 18446744073709551615) % 18446744073709551616 ≡ left - 1 = omega arith in (
      ap (λ x. not (nat_eq (bit_and word (bit_xor left (bit_and left x))) 0)) less
          ∙ ap (λ x. not (nat_eq (bit_and word x) 0)) (lowest_alone left some fits)
          ∙ ap (λ x. not (nat_eq x 0)) (and_pow word t)
          ∙ tested (bit_at word t) (2 ^ t) (bit_at-lt word t) (pow_pos t),
      ap (bit_and left) less,
    )
