use Rattle.std.proofs.Common.{◌≡◌, ℕ, ◌-◌, ◌+◌, min, slice_index, false, refl, ap, subst, sym}
use Rattle.std.proofs.Common.{◌∙◌, arith}
use Rattle.std.specs.Prelude.{slice_get, Some, if◌then◌else◌}
use Rattle.std.specs.Int.{bit_not, w64}
use Rattle.std.proofs.lemmas.Nat.{and_le_l}
use Rattle.vb_bits.specs.Bits.{bit_of}
use Rattle.vb_bits.specs.Digits.{has_bit}
use Rattle.vb_bits.proofs.BitsLemmas.{length-bits}
use Rattle.vb_bits.proofs.WindowLemmas.{digits-clear}
use Rattle.vb_view.specs.View.{bits_of}
use Rattle.vb_take.proofs.BlocksLemmas.{TakesBlock-past, TakesBlock-word}
use Rattle.vb_take.proofs.block.take_block.Goals as goal

pub returns-then-valid-eq0 : goal.returns-then-valid-eq0
returns-then-valid-eq0 c k h =
    let taken = slice_get (bits_of c.args.bits) (slice_index c.args.block.now k) in
    subst (λ v. (if has_bit v k then taken else Some false) ≡ Some (has_bit 0 k))
    (sym c.if-valid-eq0.true)
    (subst (λ b. (if b then taken else Some false) ≡ Some b) (sym (digits-clear k)) refl)

pub returns-then-past-ne0 : goal.returns-then-past-ne0
returns-then-past-ne0 c =
    let w : ℕ = c.within_word.result in
    TakesBlock-past (bits_of c.args.bits) c.args.block.now c.args.valid w c.len-len.result
    (sym c.len-len.ensures) (omega arith) c.within_word.ensures
    (omega (arith, c.if-past-ne0.true)) (omega (arith, and_le_l c.args.valid (bit_not w64 w)))

pub returns : goal.returns
returns c =
    let v = c.args.bits in
    TakesBlock-word v.bytes.now c.args.block.now c.bit_places-places.result v.offset
    v.len c.len-len.result c.args.valid c.within_word.result c.take_word.result
    (sym (c.len-len.ensures ∙ length-bits v.bytes.now v.offset v.len))
    (omega arith) c.within_word.ensures c.if-past-ne0.false
    (λ k h. c.bit_places-places.ensures k h ∙ ap (λ o.
    min (slice_index c.args.block.now k) (c.len-len.result - 1) + o) c.offset.ensures.value)
    (λ k h. c.take_word.ensures k h
    ∙ ap (λ b. bit_of b (slice_index c.bit_places-places.result k)) c.inner.ensures.bytes)
