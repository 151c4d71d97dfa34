use Rattle.std.proofs.Common.{◌<◌, get_or, w8, refl, ap, ◌∙◌, arith}
use Rattle.std.proofs.lemmas.Simd.{SwzOk-from_below, Each1-from_get_or, length-swz_l}
use Rattle.std.proofs.lemmas.Simd.{get_or-swz_l_below}
use Rattle.vb_filter.proofs.fields.look_up.Goals as goal

pub swizzle : goal.swizzle
swizzle c =
    let masks = c.args.masks in
    SwzOk-from_below w8 16 1 16 0 masks refl (omega (arith, c.requires.len))
    (Each1-from_get_or (λ j. j < 16) masks 0
    (λ i h. c.requires.few i (omega (arith, c.requires.len))))

pub returns-clause-len : goal.returns-clause-len
returns-clause-len c = length-swz_l w8 16 c.args.table 0 c.args.masks ∙ c.requires.len

pub returns-clause-each : goal.returns-clause-each
returns-clause-each c i h =
    get_or-swz_l_below w8 16 c.args.table 0 c.args.masks i (omega (arith, c.requires.len))
    (c.requires.few i h) ∙ ap (λ k. get_or c.args.table k 0) (omega arith)
