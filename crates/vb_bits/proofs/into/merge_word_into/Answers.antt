use Rattle.std.proofs.Common.{◌≡◌, ◌+◌, ◌*◌, ◌/◌, ◌%◌, ◌∙◌, ap, subst, arith}
use Rattle.vb_bits.specs.Bits.{bits}
use Rattle.vb_bits.specs.Digits.{digits}
use Rattle.vb_bits.specs.Writes.{Writes}
use Rattle.vb_bits.proofs.OperatorsLemmas.{Writes_into_digits}
use Rattle.vb_bits.proofs.into.merge_word_into.Goals as goal

pub returns : goal.returns
returns g c =
    let b = c.args.out.now in let s = c.args.left.now in let t = c.args.right.now in
    let l = c.args.l in let r = c.args.r in let new = c.write_word.new.bytes in
    let to : 8 * (c.args.o / 8) ≡ c.args.o = omega (arith, c.requires.whole) in
    let from : 8 * (l / 8) + l % 8 ≡ l = omega arith in
    let other : 8 * (r / 8) + r % 8 ≡ r = omega arith in
    Writes_into_digits g.M.Merge.bit b new s t c.args.o l r 64 c.word.result
    c.full_word-first.result c.full_word-second.result (omega arith)
    (c.full_word-first.ensures ∙ ap (λ o. bits s o 64) from)
    (c.full_word-second.ensures ∙ ap (λ o. bits t o 64) other) c.word.ensures
    (subst (λ o. Writes b new o (digits c.word.result 0 64)) to c.write_word.ensures)
