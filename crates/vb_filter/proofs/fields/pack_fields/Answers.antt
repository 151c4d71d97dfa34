use Rattle.std.proofs.Common.{◌≡◌, ℕ, ◌*◌, ◌/◌, ◌%◌, ◌^◌, ◌<◌, get_or, ap, subst, sym, ◌∙◌, arith}
use Rattle.std.specs.Int.Bits.{bit_and, bit_or}
use Rattle.std.specs.Prelude.{count_ones}
use Rattle.std.specs.Simd.Lanes.{mask_l}
use Rattle.std.proofs.lemmas.Nat.{and_mask}
use Rattle.std.proofs.lemmas.Simd.{mask_l-lt}
use Rattle.vb_bits.specs.Bits.{count}
use Rattle.vb_bits.specs.Digits.{digits}
use Rattle.vb_bits.proofs.DigitsLemmas.{count-digits}
use Rattle.vb_pack.proofs.MaskLemmas.{digits-mask_l}
use Rattle.vb_filter.specs.Fields.{kept_number}
use Rattle.vb_filter.proofs.PackedDigits.{kept_digits, length-kept_digits, packed-more}
use Rattle.vb_filter.proofs.fields.pack_fields.Goals as goal

-- two halves that are joined
halves : (mask word low high : ℕ) → mask < 2 ^ 64 → low ≡ kept_number mask word 0 32
    → high ≡ kept_number mask word 32 32
    → bit_or low (high * 2 ^ count_ones (bit_and mask 4294967295) % 2 ^ 64)
    ≡ mask_l (kept_digits mask word 0 64)
halves mask word low high fits first second =
    let n : ℕ = count_ones (bit_and mask 4294967295) in
    let front : mask / 2 ^ 0 % 2 ^ 32 ≡ mask % 2 ^ 32 = omega arith in
    let many : n ≡ count (digits mask 0 32) =
    ap count_ones (and_mask mask 32 ∙ sym front) ∙ sym (count-digits mask 0 32) in
    ap (λ x. bit_or x (high * 2 ^ n % 2 ^ 64)) first
    ∙ ap (λ x. bit_or (kept_number mask word 0 32) (x * 2 ^ n % 2 ^ 64)) second
    ∙ packed-more mask word n 32 32 fits many

pub returns : goal.returns
returns c =
    let mask : ℕ = c.args.mask in
    let word : ℕ = c.args.word in
    let eights = c.join_eights.ensures mask word
    (c.join_fours.ensures mask word c.pack_fours.ensures) in
    let ends = c.join_sixteens.ensures mask word in
    let packed = halves mask word (get_or c.join_sixteens.result 0 0)
    (get_or c.join_sixteens.result 1 0) (omega arith) (ends 0 eights (omega arith))
    (ends 1 eights (omega arith)) in
    let many = length-kept_digits mask word 0 64 in
    record {
      kept = ap (λ x. digits x 0 (count (digits mask 0 64))) packed
          ∙ digits-mask_l (kept_digits mask word 0 64) (count (digits mask 0 64)) many;
      clear = subst (λ x. x < 2 ^ count (digits mask 0 64)) (sym packed)
          (subst (λ x. mask_l (kept_digits mask word 0 64) < 2 ^ x) many
          (mask_l-lt (kept_digits mask word 0 64)));
    }
