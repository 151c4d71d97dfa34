use Rattle.std.proofs.Common.{◌*◌, refl, ◌∙◌}
use Rattle.vb_bits.proofs.BytesLemmas.{bits_of_read}
use Rattle.vb_bits.proofs.lanes.words_at.Goals as goal

pub returns-clause-digits : goal.returns-clause-digits
returns-clause-digits c =
    let b = c.args.bytes.now in
    c.words_of.ensures.digits ∙ bits_of_read b b _ c.args.at 32 (8 * c.args.at) refl refl refl
