use Rattle.std.proofs.Common.{◌∙◌, sym, ap, arith}
use Rattle.std.specs.Int.{w64}
use Rattle.vb_bits.specs.Bits.{complement}
use Rattle.vb_bits.proofs.DigitsLemmas.{digits-bit_not}
use Rattle.vb_count.proofs.HitsLemmas.{matching_false}
use Rattle.vb_select.proofs.matches.read_matches.Goals as goal

pub returns-else-value-clause-digits : goal.returns-else-value-clause-digits
returns-else-value-clause-digits c =
    c.low_digits.ensures.digits
    ∙ digits-bit_not w64 c.read_short-word.result 0 c.args.count c.read_short-word.type_inv
    (omega arith)
    ∙ ap complement c.read_short-word.ensures.digits
    ∙ sym (matching_false c.args.value _ c.if-value.false)
