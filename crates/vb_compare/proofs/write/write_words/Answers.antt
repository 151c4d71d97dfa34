use Rattle.std.proofs.Common.{ℕ, ◌≡◌, ◌+◌, ◌*◌, ◌/◌, Bool, List, [], length, take, drop, subst}
use Rattle.std.proofs.Common.{refl, arith}
use Rattle.std.proofs.lemmas.List.{length-take-le, length-drop}
use Rattle.vb_bits.specs.Writes.{Writes}
use Rattle.vb_bits.proofs.WritesLemmas.{Writes_none, Writes-add}
use Rattle.vb_compare.proofs.TruthLemmas.{next_word}
use Rattle.vb_compare.proofs.write.write_words.Goals as goal

pub loop-k-init : goal.loop-k-init
loop-k-init g c = Writes_none c.args.out.now (c.args.offset + c.args.from) [] refl

pub loop-k-preserved : goal.loop-k-preserved
loop-k-preserved g c =
    let l : List Bool = g.S.Truths.truths c.args.source.now in
    let o : ℕ = c.args.offset in let from : ℕ = c.args.from in let k : ℕ = c.loop-k.k in
    let part : List Bool = take (64 * k) (drop from l) in
    let long : length part ≡ 64 * k =
    length-take-le (64 * k) (drop from l) (omega (arith, length-drop from l)) in
    let place : 8 * ((o + from) / 8 + 8 * k) ≡ o + from + length part = omega arith in
    let wrote = subst (Writes c.loop-k.out c.store_word.new.out
    (8 * ((o + from) / 8 + 8 * k))) c.word_from.ensures c.store_word.ensures in
    subst (Writes c.args.out.now c.store_word.new.out (o + from)) (next_word l from k)
    (Writes-add c.args.out.now c.loop-k.out c.store_word.new.out (o + from)
    (8 * ((o + from) / 8 + 8 * k)) part (take 64 (drop (from + 64 * k) l)) place
    c.loop-k.invariant wrote)

pub returns : goal.returns
returns g c =
    let l : List Bool = g.S.Truths.truths c.args.source.now in
    let end : c.loop-k.k ≡ c.args.words = omega arith in
    subst (λ n. Writes c.args.out.now c.loop-k.out (c.args.offset + c.args.from)
    (take (64 * n) (drop c.args.from l))) end c.loop-k.invariant
