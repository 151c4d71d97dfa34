use Rattle.std.proofs.Common.{sym, arith, ap, ◌∙◌}
use Rattle.std.specs.Int.{w64}
use Rattle.vb_bits.specs.Bits.{complement}
use Rattle.vb_bits.proofs.BytesLemmas.{bits-to_le_bytes}
use Rattle.vb_bits.proofs.DigitsLemmas.{digits-bit_not}
use Rattle.vb_count.proofs.HitsLemmas.{matching_true, matching_false}
use Rattle.vb_count.proofs.word.matching_word.Goals as goal

pub returns-then-value : goal.returns-then-value
returns-then-value c = sym (matching_true c.args.value _ c.if-value.true
    ∙ bits-to_le_bytes c.args.word 0 64 (omega arith))

pub returns-else-value : goal.returns-else-value
returns-else-value c =
    digits-bit_not w64 c.args.word 0 64 c.ranges.word.fits (omega arith)
    ∙ sym (matching_false c.args.value _ c.if-value.false
    ∙ ap complement (bits-to_le_bytes c.args.word 0 64 (omega arith)))
