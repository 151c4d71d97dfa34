use Rattle.std.proofs.Common.{ap, sym, ◌∙◌}
use Rattle.vb_bits.specs.Bits.{count}
use Rattle.vb_bits.proofs.DigitsLemmas.{count-digits_below}
use Rattle.vb_select.proofs.unit.U8Searchable.count.Goals as goal

pub returns : goal.returns
returns c = sym (count-digits_below c.byte_part.result 8 c.byte_part.ensures.clear)
    ∙ ap count c.byte_part.ensures.digits
