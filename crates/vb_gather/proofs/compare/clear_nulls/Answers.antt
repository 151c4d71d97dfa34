use Rattle.std.proofs.Common.{◌≡◌, sym, ap, ◌∙◌}
use Rattle.std.specs.Option.{option_map}
use Rattle.vb_bits.specs.Bits.{bits}
use Rattle.vb_bits.proofs.BitsLemmas.{length-bits}
use Rattle.vb_view.specs.View.{bits_of}
use Rattle.vb_gather.proofs.ComparedLemmas.{none_cleared, some_cleared}
use Rattle.vb_gather.proofs.compare.clear_nulls.Goals as goal

pub returns-in-Some : goal.returns-in-Some
returns-in-Some c =
    let valid = c.in-Some.valid in let n = c.args.len in
    let src = c.inner.result.now in let o = c.offset.result in
    let long : valid.len ≡ n =
    sym (length-bits valid.bytes.now valid.offset valid.len)
    ∙ c.requires.validity valid c.in-Some.is in
    let seen : bits src o n ≡ bits_of valid =
    ap (λ b. bits b o n) c.inner.ensures.bytes
    ∙ ap (λ k. bits valid.bytes.now k n) c.offset.ensures.value
    ∙ ap (bits valid.bytes.now valid.offset) (sym long) in
    some_cleared c.args.out.now c.zip_words.new.dst src o n (bits_of valid)
    (option_map bits_of c.args.validity) (ap (option_map bits_of) c.in-Some.is) seen
    c.zip_words.ensures

pub returns-in_default : goal.returns-in_default
returns-in_default c =
    none_cleared c.args.out.now c.args.len (option_map bits_of c.args.validity)
    (ap (option_map bits_of) c.in_default.is)
