use Rattle.std.proofs.Common.{arith, ◌≡◌, ℕ, ◌+◌, ◌-◌, ◌*◌, ◌/◌, ◌++◌, length, map, take, drop}
use Rattle.std.proofs.Common.{refl, subst, sym, ap, ◌∙◌}
use Rattle.std.proofs.Math.Seq.{take-add}
use Rattle.std.proofs.lemmas.List.{length-map, length-take-le, take-map, drop-map}
use Rattle.vb_bits.proofs.WritesLemmas.{Writes_none, Writes-add}
use Rattle.vb_pack.specs.Digits.{digits}
use Rattle.vb_pack.specs.Writes.{Writes}
use Rattle.vb_pack.proofs.truths.pack_words.Goals as goal

pub loop-k-init : goal.loop-k-init
loop-k-init g c = Writes_none c.args.bytes.now 0 _ refl

pub loop-k-preserved : goal.loop-k-preserved
loop-k-preserved g c =
    let k : ℕ = c.loop-k.k in let l = c.args.values.now in let t = g.T.Truth.truth in
    let m = map t l in
    let w = c.word.result in
    let next : 64 * (k + 1) ≡ 64 * k + 64 = omega arith in
    let size : 64 * k + 64 - 64 * k ≡ 64 = omega arith in
    let long : length (take (64 * k) m) ≡ 64 * k =
    length-take-le (64 * k) m (omega (arith, length-map l t)) in
    let from : 8 * (8 * k) ≡ 0 + length (take (64 * k) m) = omega (arith, long) in
    let word : digits w 0 64 ≡ take 64 (drop (64 * k) m) =
    c.word.ensures ∙ ap (λ n. map t (take n (drop (64 * k) l))) size
    ∙ sym (take-map t 64 (drop (64 * k) l)) ∙ ap (take 64) (sym (drop-map t (64 * k) l)) in
    let whole : take (64 * k) m ++ digits w 0 64 ≡ take (64 * (k + 1)) m =
    ap (λ x. take (64 * k) m ++ x) word
    ∙ sym (take-add (64 * k) 64 m) ∙ ap (λ n. take n m) (sym next) in
    subst (Writes c.args.bytes.now c.write_front.new.bytes 0) whole
    (Writes-add c.args.bytes.now c.loop-k.bytes c.write_front.new.bytes 0 (8 * (8 * k))
    (take (64 * k) m) (digits w 0 64) from c.loop-k.invariant c.write_front.ensures)

pub returns : goal.returns
returns g c =
    let m = map g.T.Truth.truth c.args.values.now in
    let end : c.loop-k.k ≡ length c.args.values.now / 64 = omega arith in
    subst (λ k. Writes c.args.bytes.now c.loop-k.bytes 0 (take (64 * k) m)) end c.loop-k.invariant
