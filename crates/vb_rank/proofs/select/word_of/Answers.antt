use Rattle.std.proofs.Common.{◌≡◌, ◌*◌, ◌+◌, ap, ◌∙◌, arith}
use Rattle.vb_bits.specs.Bits.{bits}
use Rattle.vb_count.specs.Hits.{hits}
use Rattle.vb_bits.proofs.BytesLemmas.{bits-to_le_bytes}
use Rattle.vb_rank.proofs.select.word_of.Goals as goal

pub returns : goal.returns
returns c =
    let place : 8 * (8 * c.args.k) + 0 ≡ 64 * c.args.k = omega arith in
    c.matching_word.ensures ∙ ap (hits c.args.value)
    (bits-to_le_bytes c.full_word.result 0 64 (omega arith) ∙ c.full_word.ensures
    ∙ ap (λ o. bits c.args.chunk.now o 64) place)
