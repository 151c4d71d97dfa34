use Rattle.std.proofs.Common.{◌≡◌, ℕ, ◌*◌, ◌^◌, ◌<◌, get_or, ap, ◌∙◌, arith}
use Rattle.std.specs.Simd.Lanes.{mask_l}
use Rattle.vb_bits.specs.Bits.{count}
use Rattle.vb_bits.specs.Digits.{digits}
use Rattle.vb_bits.specs.Kept.{kept_by}
use Rattle.vb_bits.proofs.DigitsLemmas.{digits_part}
use Rattle.vb_filter.proofs.FourLanes.{power_of}
use Rattle.vb_filter.proofs.fields.pack_fours.Goals as goal

pub returns : goal.returns
returns c =
    let mask : ℕ = c.args.mask in
    let word : ℕ = c.args.word in
    let masks = c.fours-masks.ensures in
    let of_mask : (i : ℕ) → i < 16
    → digits (get_or c.fours-masks.result i 0) 0 4 ≡ digits mask (4 * i) 4 = λ i h.
    ap (λ x. digits x 0 4) (masks.each i h) ∙ digits_part mask (4 * i) 4 in
    record {
      lengths = (c.pack_each.ensures.len, c.look_up.ensures.len);
      each = λ i h.
          c.pack_each.ensures.each i h
          ∙ ap (λ l. mask_l (kept_by l (digits (get_or c.fours.result i 0) 0 4))) (of_mask i h)
          ∙ ap (λ l. mask_l (kept_by (digits mask (4 * i) 4) l))
          (ap (λ x. digits x 0 4) (c.fours.ensures.each i h) ∙ digits_part word (4 * i) 4);
      numbers = λ i h.
          c.look_up.ensures.each i h
          ∙ power_of (get_or c.fours-masks.result i 0) (omega (arith, masks.each i h))
          ∙ ap (λ l. 2 ^ count l) (of_mask i h);
    }
