use Rattle.std.proofs.Common.{Some, ap, arith, refl, subst, ◌∙◌}
use Rattle.vb_bits.specs.Bits.{count, Selects}
use Rattle.vb_count.specs.Hits.{hits}
use Rattle.vb_bits.proofs.BytesLemmas.{bits_of_read}
use Rattle.vb_select.proofs.unit.ArrayU88Searchable.select.Goals as goal

pub select_in_word-requires : goal.select_in_word-requires
select_in_word-requires c =
    let b = c.args.self in
    let is = bits_of_read b b _ 0 8 0 refl c.word_at.ensures refl in
    omega (arith, c.requires, ap count (c.matching_word.ensures ∙ ap (hits c.args.value) is))

pub returns : goal.returns
returns c =
    let b = c.args.self in
    let is = bits_of_read b b _ 0 8 0 refl c.word_at.ensures refl in
    subst (λ l. Selects l c.args.n (Some c.select_in_word.result))
    (c.matching_word.ensures ∙ ap (hits c.args.value) is) c.select_in_word.ensures
