use Rattle.std.proofs.Common.{◌+◌, ◌-◌, ◌/◌, ◌%◌, ◌^◌, sym, arith, subst}
use Rattle.vb_bits.proofs.ReadLemmas.{digits_of_word}
use Rattle.vb_select.proofs.NearestLemmas.{Shows, Shows-shifted, IsNext_none, IsNext_later}
use Rattle.vb_select.proofs.NearestLemmas.{IsNext-word, IsNext-word_past, off-zero, shifted_fits}
use Rattle.vb_select.proofs.next.next_match.Goals as goal

pub returns-then-len-from : goal.returns-then-len-from
returns-then-len-from c =
    IsNext_none c.args.value c.args.bytes.now c.args.offset c.args.len c.args.from c.args.from
    c.if-len-from.true (λ i lo hi. absurd (omega arith))

pub returns-then-len-from-2 : goal.returns-then-len-from-2
returns-then-len-from-2 c =
    let b = c.args.bytes.now in let o = c.args.offset in let v = c.args.value in
    let a = c.args.from in let s = (o + a) % 8 in
    let shows = subst (λ y. Shows v b o a (64 - s) (y / 2 ^ s)) (sym c.others.ensures)
    (Shows-shifted v b o a ((o + a) / 8) s c.word_at.result
    (digits_of_word b c.word_at.result ((o + a) / 8) c.word_at.ensures) c.word_at.type_inv
    (omega arith)) in
    IsNext_none v b o c.args.len a (a + (64 - s)) (omega (arith, c.if-len-from-2.true))
    (off-zero v b o c.args.len a (64 - s) (c.others.result / 2 ^ s) shows c.if-word-eq0.true)

pub returns-then-word-eq0 : goal.returns-then-word-eq0
returns-then-word-eq0 c =
    let b = c.args.bytes.now in let o = c.args.offset in let v = c.args.value in
    let a = c.args.from in let s = (o + a) % 8 in
    let shows = subst (λ y. Shows v b o a (64 - s) (y / 2 ^ s)) (sym c.others.ensures)
    (Shows-shifted v b o a ((o + a) / 8) s c.word_at.result
    (digits_of_word b c.word_at.result ((o + a) / 8) c.word_at.ensures) c.word_at.type_inv
    (omega arith)) in
    IsNext_later _ a (a + (64 - s)) c.next_in_words.result (omega arith)
    (off-zero v b o c.args.len a (64 - s) (c.others.result / 2 ^ s) shows c.if-word-eq0.true)
    c.next_in_words.ensures

pub returns-then-digit-len : goal.returns-then-digit-len
returns-then-digit-len c =
    let b = c.args.bytes.now in let o = c.args.offset in let v = c.args.value in
    let a = c.args.from in let s = (o + a) % 8 in
    let shows = subst (λ y. Shows v b o a (64 - s) (y / 2 ^ s)) (sym c.others.ensures)
    (Shows-shifted v b o a ((o + a) / 8) s c.word_at.result
    (digits_of_word b c.word_at.result ((o + a) / 8) c.word_at.ensures) c.word_at.type_inv
    (omega arith)) in
    IsNext-word v b o c.args.len a (64 - s) (c.others.result / 2 ^ s) shows
    (omega (arith, c.if-word-eq0.false)) (shifted_fits c.others.result s c.others.type_inv
    (omega arith)) (omega arith) (omega (arith, c.if-digit-len.true))

pub returns-else-digit-len : goal.returns-else-digit-len
returns-else-digit-len c =
    let b = c.args.bytes.now in let o = c.args.offset in let v = c.args.value in
    let a = c.args.from in let s = (o + a) % 8 in
    let shows = subst (λ y. Shows v b o a (64 - s) (y / 2 ^ s)) (sym c.others.ensures)
    (Shows-shifted v b o a ((o + a) / 8) s c.word_at.result
    (digits_of_word b c.word_at.result ((o + a) / 8) c.word_at.ensures) c.word_at.type_inv
    (omega arith)) in
    IsNext-word_past v b o c.args.len a (64 - s) (c.others.result / 2 ^ s) shows
    (omega (arith, c.if-word-eq0.false)) (shifted_fits c.others.result s c.others.type_inv
    (omega arith)) (omega arith) (omega (arith, c.if-digit-len.false))
