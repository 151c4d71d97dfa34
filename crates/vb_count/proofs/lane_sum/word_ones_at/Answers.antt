use Rattle.std.proofs.Common.{◌*◌, ap, sym, refl, arith, ◌∙◌}
use Rattle.std.specs.Int.{to_le_bytes, w64}
use Rattle.vb_bits.specs.Bits.{count}
use Rattle.vb_bits.proofs.BytesLemmas.{bits-to_le_bytes, bits_of_read}
use Rattle.vb_bits.proofs.DigitsLemmas.{count-digits_below}
use Rattle.vb_count.proofs.lane_sum.word_ones_at.Goals as goal

pub returns-clause-value : goal.returns-clause-value
returns-clause-value c =
    let word = c.word_at.result in let b = c.args.bytes.now in
    sym (count-digits_below word 64 c.word_at.type_inv)
    ∙ ap count (sym (bits-to_le_bytes word 0 64 (omega arith)))
    ∙ ap count (bits_of_read b b
    (to_le_bytes w64 word) c.args.at 8 (8 * c.args.at) refl c.word_at.ensures refl)
