use Rattle.std.proofs.Common.{◌≡◌, ◌+◌, ◌*◌, ◌∙◌, ap, arith}
use Rattle.vb_bits.specs.Bits.{bits}
use Rattle.vb_bits.proofs.ReadLemmas.{digits_of_word}
use Rattle.vb_bits.proofs.read.full_word.Goals as goal

pub returns-then-shift-eq0 : goal.returns-then-shift-eq0
returns-then-shift-eq0 c =
    let whole : 8 * c.args.first ≡ 8 * c.args.first + c.args.shift =
    omega (arith, c.if-shift-eq0.true) in
    digits_of_word c.args.bytes.now c.word_at.result c.args.first c.word_at.ensures
    ∙ ap (λ o. bits c.args.bytes.now o 64) whole
