use Rattle.std.proofs.Common.{◌≡◌, ℕ, get_or, ap, ◌∙◌, sym, arith}
use Rattle.std.specs.Int.Bits.{bit_and}
use Rattle.std.specs.Simd.Lanes.{zip2}
use Rattle.std.proofs.lemmas.Simd.{get_or-zip2, length-zip2}
use Rattle.vb_filter.specs.declared.fields.TheConstants.{BY_ONE}
use Rattle.vb_filter.proofs.FourLanes.{down, packed_is}
use Rattle.vb_filter.proofs.fields.pack_each.Goals as goal

pub returns-clause-each : goal.returns-clause-each
returns-clause-each c i h =
    let words = c.args.words in
    let masks = c.args.masks in
    let m : ℕ = get_or masks i 0 in
    let x : ℕ = get_or words i 0 in
    let kept : get_or (zip2 bit_and words masks) i 0 ≡ bit_and x m =
    get_or-zip2 bit_and words masks i 0 0 0 (omega (arith, c.requires.lens.0))
    (omega (arith, c.requires.lens.1)) in
    c.move_down.ensures.each i h
    ∙ ap (λ t. down t (get_or c.look_up-2.result i 0) 2) (c.move_down-near.ensures.each i h
    ∙ ap (λ t. down t (get_or c.look_up.result i 0) 1) kept
    ∙ ap (λ s. down (bit_and x m) s 1) (c.look_up.ensures.each i h))
    ∙ ap (λ s. down (down (bit_and x m) (get_or BY_ONE m 0) 1) s 2) (c.look_up-2.ensures.each i h)
    ∙ packed_is m x (c.requires.masks i h) (c.requires.words i h)

pub move_down-near-requires-clause-lens : goal.move_down-near-requires-clause-lens
move_down-near-requires-clause-lens c =
    let same = c.requires.lens.0 ∙ sym c.requires.lens.1 in (
      length-zip2 bit_and c.args.words c.args.masks same ∙ c.requires.lens.0,
      c.look_up.ensures.len,
    )
