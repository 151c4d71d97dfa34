use Rattle.std.proofs.Common.{◌/◌, ◌%◌, ℕ, slice_index, ◌∙◌}
use Rattle.vb_take.proofs.LaneLemmas.{digit_masked}
use Rattle.vb_take.proofs.block.take_word.Goals as goal

pub returns : goal.returns
returns c = λ k h.
    let place : ℕ = slice_index c.args.places.now k in
    c.common_bits.ensures k h
    ∙ digit_masked (slice_index c.bytes_at.result k)
    (slice_index c.masks_at.result k) (slice_index c.args.bytes.now (place / 8)) (place % 8)
    (c.bytes_at.ensures k h) (c.masks_at.ensures k h)
