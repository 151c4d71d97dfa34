use Rattle.std.proofs.Common.{◌≡◌, [], ◌∷◌, length, None, Some, sym, subst, ◌∙◌}
use Rattle.vb_view.specs.View.{bits_of}
use Rattle.vb_gather.specs.OneLength.{first_other}
use Rattle.vb_gather.proofs.LengthsLemmas.{first_len, as_long, gives_made, gives_refused}
use Rattle.vb_gather.proofs.compare.try_compared.Goals as goal

pub compared-requires : goal.compared-requires
compared-requires g c =
    let n = length c.args.values.now in
    as_long bits_of n c.args.validity (sym c.len_or.ensures
    ∙ first_len n c.len_or.result [] (sym c.other_len.ensures ∙ c.in-None.is))

pub returns-in-Some : goal.returns-in-Some
returns-in-Some g c =
    let n = length c.args.values.now in
    gives_refused n _ _ _ (subst (λ k. first_other n (k ∷ []) ≡ Some c.in-Some.right)
    c.len_or.ensures (sym c.other_len.ensures ∙ c.in-Some.is))

pub returns-in-None : goal.returns-in-None
returns-in-None g c =
    let n = length c.args.values.now in
    gives_made n _ _ _ (subst (λ k. first_other n (k ∷ []) ≡ None) c.len_or.ensures
    (sym c.other_len.ensures ∙ c.in-None.is)) c.compared.ensures
