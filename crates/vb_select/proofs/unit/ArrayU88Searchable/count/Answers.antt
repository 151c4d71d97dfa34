use Rattle.std.proofs.Common.{ap, refl, sym, ◌∙◌}
use Rattle.vb_bits.specs.Bits.{count}
use Rattle.vb_count.specs.Hits.{hits}
use Rattle.vb_bits.proofs.BytesLemmas.{bits_of_read}
use Rattle.vb_bits.proofs.DigitsLemmas.{count-digits_below}
use Rattle.vb_select.proofs.unit.ArrayU88Searchable.count.Goals as goal

pub returns : goal.returns
returns c =
    let b = c.args.self in
    sym (count-digits_below c.matching_word.result 64 c.matching_word.type_inv)
    ∙ ap count (c.matching_word.ensures
    ∙ ap (hits c.args.value) (bits_of_read b b _ 0 8 0 refl c.word_at.ensures refl))
