use Rattle.std.proofs.Common.{◌∙◌, sym, ap}
use Rattle.std.proofs.lemmas.Bool.{eqb-true, eq-eqb}
use Rattle.vb_bits.specs.Digits.{digits}
use Rattle.vb_bits.proofs.EqualLemmas.{same_from_digits}
use Rattle.vb_bits.proofs.equal.equal_in_eight.Goals as goal

pub returns : goal.returns
returns c =
    let v = c.low_digits in let w = c.low_digits-2 in let n = c.args.len in
    let x = v.ensures.digits ∙ c.read_in_eight.ensures in
    let y = w.ensures.digits ∙ c.read_in_eight-2.ensures in (
      λ t. sym x ∙ ap (λ z. digits z 0 n) (eqb-true _ _ t) ∙ y,
      λ e. eq-eqb _ _ (same_from_digits v.result w.result n v.ensures.clear w.ensures.clear
          (x ∙ e ∙ sym y)),
    )
