use Rattle.std.proofs.Common.{ap, sym, ◌∙◌, subst, arith}
use Rattle.std.specs.List.{FoldsTo}
use Rattle.vb_bits.specs.Digits.{digits}
use Rattle.vb_pack.specs.Asked.{CanAsk}
use Rattle.vb_bit_buffer.proofs.CalledLemmas.{places_of-ones, valued_read, one_below}
use Rattle.vb_bit_buffer.proofs.bit_buffer.for_each.places_in_part.Goals as goal

pub ones-requires-clause-fits : goal.ones-requires-clause-fits
ones-requires-clause-fits g c = λ i one.
    omega (
      arith,
      one_below c.low_digits.result c.args.len i c.low_digits.ensures.clear one,
      c.requires.window.fits,
    )

pub ones-requires-clause-callable : goal.ones-requires-clause-callable
ones-requires-clause-callable g c =
    let n = c.args.len in
    subst (CanAsk (goal.F-pre g) (goal.F-step g) c.args.f.now)
    (places_of-ones c.args.bytes.now c.args.offset c.args.value c.args.base n c.low_digits.result
    c.requires.in_word c.low_digits.ensures.clear
    (valued_read c.args.bytes.now c.args.offset c.args.value c.args.base n c.read_bits.result
    c.low_digits.result c.requires.in_word c.read_bits.type_inv c.read_bits.ensures.digits
    (c.low_digits.ensures.digits ∙ ap (λ w. digits w 0 n) c.others-word.ensures)))
    c.requires.callable

pub returns : goal.returns
returns g c =
    let n = c.args.len in
    subst (λ xs. FoldsTo (λ p i q. goal.F-step g p i tt q) c.args.f.now xs c.ones.new.f)
    (sym (places_of-ones c.args.bytes.now c.args.offset c.args.value c.args.base n
    c.low_digits.result c.requires.in_word c.low_digits.ensures.clear
    (valued_read c.args.bytes.now c.args.offset c.args.value c.args.base n c.read_bits.result
    c.low_digits.result c.requires.in_word c.read_bits.type_inv c.read_bits.ensures.digits
    (c.low_digits.ensures.digits ∙ ap (λ w. digits w 0 n) c.others-word.ensures))))
    c.ones.ensures
