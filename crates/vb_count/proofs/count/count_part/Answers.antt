use Rattle.std.proofs.Common.{ap, sym, arith, ◌∙◌}
use Rattle.vb_bits.specs.Bits.{count}
use Rattle.vb_bits.proofs.BytesLemmas.{bits_of_read_byte}
use Rattle.vb_bits.proofs.DigitsLemmas.{count-digits_below}
use Rattle.vb_count.proofs.count.count_part.Goals as goal

pub returns-clause-value : goal.returns-clause-value
returns-clause-value g c =
    let b = (g.G.Glance.seen c.args.src.now).bytes in
    sym (count-digits_below c.byte_part.result c.args.len c.byte_part.ensures.clear)
    ∙ ap count c.byte_part.ensures.digits
    ∙ ap count (bits_of_read_byte b c.byte.result c.args.at c.args.len c.byte.ensures.value
    (c.requires.in_byte (omega arith)))
