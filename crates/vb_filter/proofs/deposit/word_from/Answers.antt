use Rattle.std.proofs.Common.{◌≡◌, ℕ, ◌+◌, ◌-◌, ◌*◌, ◌/◌, ◌%◌, take, sym, ap, ◌∙◌, arith}
use Rattle.vb_bits.specs.Bits.{bits}
use Rattle.vb_bits.proofs.BitsLemmas.{length-bits, take-bits}
use Rattle.vb_bits.proofs.WindowLemmas.{bits-part}
use Rattle.vb_filter.proofs.SpreadDigits.{front}
use Rattle.vb_filter.proofs.deposit.word_from.Goals as goal

pub returns-then-bytes-at-gt8 : goal.returns-then-bytes-at-gt8
returns-then-bytes-at-gt8 c =
    let view = c.args.view in
    let n = c.args.n in
    let start = c.args.start in
    let bytes = c.inner-bytes.result.now in
    let at : ℕ = c.offset.result + start in
    let place : 8 * (at / 8) + at % 8 ≡ view.offset + start =
    omega (arith, c.offset.ensures.value) in
    let len : start + n - start ≡ n = omega arith in
    let w : ℕ = c.full_word.result in
    sym (front w n 64 c.requires.few)
    ∙ ap (take n) (c.full_word.ensures ∙ ap (λ o. bits bytes o 64) place
    ∙ ap (λ b. bits b (view.offset + start) 64) c.inner-bytes.ensures.bytes)
    ∙ take-bits view.bytes.now (view.offset + start) 64 n c.requires.few
    ∙ ap (bits view.bytes.now (view.offset + start)) (sym len)
    ∙ bits-part view.bytes.now view.offset view.len start (start + n) (omega arith)
    (omega (arith, c.requires.inside, length-bits view.bytes.now view.offset view.len))
