use Rattle.std.proofs.Common.{◌≡◌, ◌+◌, ◌*◌, ◌/◌, ◌%◌, ◌∙◌, refl, ap, arith}
use Rattle.vb_bits.specs.Bits.{bits}
use Rattle.vb_bits.proofs.LanesLemmas.{Writes_merged_lanes}
use Rattle.vb_bits.proofs.OperatorsLemmas.{Writes_merged_none, Writes-merged_by}
use Rattle.vb_bits.proofs.merge.merge_shifted_blocks.Goals as goal

pub loop-k-init : goal.loop-k-init
loop-k-init g c = Writes_merged_none g.M.Merge.bit _ _ _ _ _ (omega arith)

pub loop-k-preserved : goal.loop-k-preserved
loop-k-preserved g c =
    let k = c.loop-k.k in let b = c.loop-k.dst in let t = c.args.src.now in
    let whole = c.requires.whole (omega arith) in
    let to : 8 * (c.args.d / 8 + 32 * k) ≡ c.args.d + 256 * k = omega (arith, whole) in
    let from : 8 * (c.args.s / 8 + 32 * k) + c.args.s % 8 ≡ c.args.s + 256 * k = omega arith in
    let left = c.words_at-left.ensures.digits ∙ ap (λ o. bits b o 256) to in
    let right = c.shifted_words-right.ensures.digits ∙ ap (λ o. bits t o 256) from in
    let word = Writes_merged_lanes g.M.Merge.bit b _ t _ _ _ _ _ _ left right c.words.ensures.digits
    c.write_words.ensures to in
    Writes-merged_by g.M.Merge.bit _ _ _ _ _ _ _ _ _ _ _ c.loop-k.invariant word refl refl
    (omega arith)
