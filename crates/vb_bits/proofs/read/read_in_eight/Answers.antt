use Rattle.std.proofs.Common.{ℕ, ◌+◌, ◌-◌, ◌*◌, ◌/◌, ◌%◌, ◌^◌, length, refl, arith}
use Rattle.vb_bits.proofs.ReadLemmas.{digits_of_word, digits_inside, digits_shifted}
use Rattle.vb_bits.proofs.ReadLemmas.{digits_joined}
use Rattle.vb_bits.proofs.read.read_in_eight.Goals as goal

pub returns-then-left-lt8 : goal.returns-then-left-lt8
returns-then-left-lt8 c =
    let b = c.args.bytes.now in let at = c.args.at in let w = c.word_at.result in
    let last : ℕ = length b - 8 in
    let up : ℕ = 8 * (7 - (length b - at / 8)) in
    let few = c.if-left-lt8.true in
    digits_inside b (w / 2 ^ up) (8 * last + up) (64 - up) (8 + at % 8) c.args.count at
    (digits_inside b w (8 * last) 64 up (64 - up) (8 * last + up)
    (digits_of_word b w last c.word_at.ensures) refl (omega arith))
    (omega (arith, few, c.requires.eight, c.requires.inside))
    (omega (arith, few, c.requires.eight, c.requires.inside))

pub returns-then-shift-count-gt64 : goal.returns-then-shift-count-gt64
returns-then-shift-count-gt64 c =
    let b = c.args.bytes.now in let f = c.args.at / 8 in let w = c.word_at-2.result in
    rw c.from.ensures (digits_joined b 8 f (c.args.at % 8) c.args.count w c.args.at
    (digits_of_word b w f c.word_at-2.ensures) (omega arith) c.word_at-2.type_inv (omega arith)
    c.requires.in_word (omega arith))

pub returns-else-shift-count-gt64 : goal.returns-else-shift-count-gt64
returns-else-shift-count-gt64 c =
    let b = c.args.bytes.now in let f = c.args.at / 8 in let w = c.word_at-2.result in
    digits_shifted b 64 f (c.args.at % 8) c.args.count w c.args.at
    (digits_of_word b w f c.word_at-2.ensures) (omega arith) c.if-shift-count-gt64.false
