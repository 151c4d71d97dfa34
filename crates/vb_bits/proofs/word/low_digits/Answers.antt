use Rattle.std.proofs.Common.{◌-◌, ◌∙◌, ap, arith}
use Rattle.std.specs.Prelude.{bit_and}
use Rattle.std.proofs.lemmas.Nat.{and_mask, one_shl}
use Rattle.vb_bits.specs.Digits.{digits}
use Rattle.vb_bits.proofs.ReadLemmas.{digits_cut}
use Rattle.vb_bits.proofs.word.low_digits.Goals as goal

pub returns-else-n-eq64-clause-digits : goal.returns-else-n-eq64-clause-digits
returns-else-n-eq64-clause-digits c =
    let n = c.args.n in
    let w = c.args.word in
    ap (λ m. digits (bit_and w (m - 1)) 0 n) (one_shl n 64 (omega arith))
    ∙ ap (λ x. digits x 0 n) (and_mask w n) ∙ digits_cut w n
