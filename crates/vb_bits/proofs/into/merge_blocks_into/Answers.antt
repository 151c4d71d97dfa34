use Rattle.std.proofs.Common.{◌≡◌, ◌+◌, ◌*◌, ◌/◌, ◌%◌, ◌∙◌, refl, ap, subst, arith}
use Rattle.vb_bits.specs.Bits.{bits}
use Rattle.vb_bits.specs.Digits.{lane_bits}
use Rattle.vb_bits.specs.Operators.{merged_by}
use Rattle.vb_bits.specs.Writes.{Writes}
use Rattle.vb_bits.proofs.OperatorsLemmas.{Writes_into_none, Writes-into}
use Rattle.vb_bits.proofs.into.merge_blocks_into.Goals as goal

pub loop-k-init : goal.loop-k-init
loop-k-init g c = Writes_into_none g.M.Merge.bit _ _ _ _ _ _ _ (omega arith)

pub loop-k-preserved : goal.loop-k-preserved
loop-k-preserved g c =
    let k = c.loop-k.k in let b = c.loop-k.out in let s = c.args.left.now in
    let t = c.args.right.now in let f = g.M.Merge.bit in let o = c.args.o in
    let l = c.args.l in let r = c.args.r in let d = c.write_words.new.bytes in
    let w = c.words.result in
    let to : 8 * (o / 8 + 32 * k) ≡ o + 256 * k = omega (arith, c.requires.whole) in
    let from : 8 * (l / 8 + 32 * k) + l % 8 ≡ l + 256 * k = omega arith in
    let other : 8 * (r / 8 + 32 * k) + r % 8 ≡ r + 256 * k = omega arith in
    let first = c.four_words-first.ensures.digits ∙ ap (λ x. bits s x 256) from in
    let second = c.four_words-second.ensures.digits ∙ ap (λ x. bits t x 256) other in
    let whole : lane_bits w ≡ merged_by f (bits s (l + 256 * k) 256) (bits t (r + 256 * k) 256) =
    c.words.ensures.digits ∙ ap (λ z. merged_by f z (lane_bits c.four_words-second.result)) first
    ∙ ap (merged_by f (bits s (l + 256 * k) 256)) second in
    let written = subst (λ m. Writes b d (o + 256 * k) m) whole
    (subst (λ x. Writes b d x (lane_bits w)) to c.write_words.ensures) in
    Writes-into f _ _ _ s t _ _ _ _ _ _ _ _ _ c.loop-k.invariant written refl refl refl
    (omega arith)
