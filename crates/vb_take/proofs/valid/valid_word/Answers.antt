use Rattle.std.proofs.Common.{ℕ, ◌+◌, ◌-◌, ◌<◌, false, List, Bool, get_or, drop, sym, ap, ◌∙◌}
use Rattle.std.proofs.Common.{get_or-take, get_or-drop, arith, zero-add}
use Rattle.std.specs.Option.{option_map}
use Rattle.vb_bits.specs.Digits.{has_bit}
use Rattle.vb_bits.proofs.DigitsLemmas.{at-digits}
use Rattle.vb_view.specs.View.{bits_of}
use Rattle.vb_take.specs.Takes.{is_valid}
use Rattle.vb_take.proofs.BlocksLemmas.{digit_of_all}
use Rattle.vb_take.proofs.valid.valid_word.Goals as goal

pub returns-in-Some : goal.returns-in-Some
returns-in-Some c = λ k h.
    let a : ℕ = c.args.at in
    let n : ℕ = c.args.n in
    let l : List Bool = bits_of c.in-Some.bits in
    let w : ℕ = c.view_word.result in
    let inside : k < a + n - a = omega (arith, h) in
    ap (has_bit w) (sym (zero-add k)) ∙ sym (at-digits w 0 n k false h)
    ∙ ap (λ d. get_or d k false) c.view_word.ensures.digits
    ∙ get_or-take (a + n - a) (drop a l) k false inside ∙ get_or-drop a l k false
    ∙ sym (ap (λ v. is_valid (option_map bits_of v) (a + k)) c.in-Some.is)

pub returns-in-None : goal.returns-in-None
returns-in-None c = λ k h. digit_of_all k (omega (arith, h, c.requires.few))
    ∙ sym (ap (λ v. is_valid (option_map bits_of v) (c.args.at + k)) c.in-None.is)
