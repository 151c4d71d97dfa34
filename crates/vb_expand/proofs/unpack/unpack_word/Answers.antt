use Rattle.std.proofs.Common.{◌≡◌, ℕ, ◌*◌, map, take, refl, sym, ap, ◌∙◌, arith}
use Rattle.std.specs.Int.{from_bool}
use Rattle.std.proofs.lemmas.List.{take_all}
use Rattle.vb_bits.specs.Digits.{digits}
use Rattle.vb_expand.proofs.UnpackLemmas.{sixteen_more}
use Rattle.vb_expand.proofs.unpack.unpack_word.Goals as goal

pub loop-k-init : goal.loop-k-init
unfolding digits
loop-k-init c = refl

pub loop-k-preserved : goal.loop-k-preserved
loop-k-preserved c =
    sixteen_more c.loop-k.out c.lowest_sixteen.result c.args.word c.loop-k.k c.loop-k-test.true
    (c.loop-k.auto.out ∙ c.requires) c.loop-k.invariant c.lowest_sixteen.ensures

pub returns : goal.returns
returns c =
    let out = c.loop-k.out in
    let end : 16 * c.loop-k.k ≡ 64 = omega arith in
    sym (take_all 64 out (omega (arith, c.loop-k.auto.out, c.requires)))
    ∙ ap (λ n. take n out) (sym end) ∙ c.loop-k.invariant
    ∙ ap (λ n. map from_bool (digits c.args.word 0 n)) end
