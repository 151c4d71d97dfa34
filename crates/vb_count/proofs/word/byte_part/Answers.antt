use Rattle.std.proofs.Common.{ap, sym, arith, ◌∙◌}
use Rattle.std.specs.Int.{w8}
use Rattle.vb_bits.specs.Bits.{complement}
use Rattle.vb_bits.specs.Digits.{digits}
use Rattle.vb_bits.proofs.BytesLemmas.{bits_of_byte}
use Rattle.vb_bits.proofs.DigitsLemmas.{digits_masked, digits-bit_not}
use Rattle.vb_count.proofs.HitsLemmas.{matching_true, matching_false}
use Rattle.vb_count.proofs.word.byte_part.Goals as goal
use Rattle.vb_count.proofs.word.byte_part.Goals.{then-value, else-value}

pub returns-clause-digits : goal.returns-clause-digits
returns-clause-digits c =
    let from = c.args.from in let len = c.args.len in
    let bits = sym (bits_of_byte c.args.byte from len c.requires) in
    digits_masked c.from.result from len (omega arith)
    ∙ elim c.if-value.branch [
      | then-value w ↦ ap (λ x. digits x from len) (c.from.ensures ∙ w.byte-is)
          ∙ bits ∙ sym (matching_true c.args.value _ w.if-value.true)
      | else-value w ↦
          ap (λ x. digits x from len) (c.from.ensures ∙ w.byte-is)
          ∙ digits-bit_not w8 c.args.byte from len c.ranges.byte.fits c.requires
          ∙ ap complement bits ∙ sym (matching_false c.args.value _ w.if-value.false)
    ]
