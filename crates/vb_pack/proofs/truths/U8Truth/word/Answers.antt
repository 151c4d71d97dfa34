use Rattle.std.proofs.Common.{◌≡◌, ◌==◌, not, map, take, length, ap, ◌∙◌, arith}
use Rattle.std.proofs.lemmas.List.{take_all, length-map}
use Rattle.std.proofs.lemmas.Simd.{bitmask_splat}
use mir.Syntax.{w8}
use Rattle.vb_pack.specs.Digits.{digits}
use Rattle.vb_pack.proofs.MaskLemmas.{digits-mask_l}
use Rattle.vb_pack.proofs.truths.U8Truth.word.Goals as goal

pub returns : goal.returns
returns c =
    let l = c.args.values.now in
    let all : take 64 l ≡ l = take_all 64 l (omega (arith, c.requires)) in
    let long : length (take 64 l) ≡ 64 = ap length all ∙ c.requires in
    ap (λ w. digits w 0 64) (bitmask_splat w8 (λ a b. not (a == b)) (take 64 l) 64 0 long
    (omega arith)) ∙ digits-mask_l (map (λ x. not (x == 0)) (take 64 l)) 64 (length-map (take 64 l)
    (λ x. not (x == 0)) ∙ long) ∙ ap (map (λ x. not (x == 0))) all
