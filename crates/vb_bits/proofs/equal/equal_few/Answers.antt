use Rattle.std.proofs.Common.{◌∙◌, sym, ap}
use Rattle.std.proofs.lemmas.Bool.{eqb-true, eq-eqb}
use Rattle.vb_bits.specs.Digits.{digits}
use Rattle.vb_bits.proofs.EqualLemmas.{same_from_digits}
use Rattle.vb_bits.proofs.equal.equal_few.Goals as goal

pub returns : goal.returns
returns c =
    let v = c.read_short in let w = c.read_short-2 in let n = c.args.len in (
      λ t. sym v.ensures.digits ∙ ap (λ x. digits x 0 n) (eqb-true _ _ t) ∙ w.ensures.digits,
      λ e. eq-eqb _ _ (same_from_digits v.result w.result n v.ensures.clear w.ensures.clear
          (v.ensures.digits ∙ e ∙ sym w.ensures.digits)),
    )
