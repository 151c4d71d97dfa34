use Rattle.std.proofs.Common.{◌≡◌, [], ◌∷◌, length, None, Some, sym, subst, ◌∙◌}
use Rattle.vb_view.specs.View.{bits_of}
use Rattle.vb_gather.specs.OneLength.{first_other}
use Rattle.vb_gather.proofs.LengthsLemmas.{first_len, rest_lens, as_long, gives_made}
use Rattle.vb_gather.proofs.LengthsLemmas.{gives_refused}
use Rattle.vb_gather.proofs.compare.try_compared_with.Goals as goal

pub compared_with-requires-clause-others : goal.compared_with-requires-clause-others
compared_with-requires-clause-others g c =
    first_len (length c.args.values.now) (length c.args.others.now) (c.len_or.result ∷ [])
    (sym c.other_len.ensures ∙ c.in-None.is)

pub compared_with-requires-clause-validity : goal.compared_with-requires-clause-validity
compared_with-requires-clause-validity g c =
    let n = length c.args.values.now in let m = length c.args.others.now in
    as_long bits_of n c.args.validity (sym c.len_or.ensures
    ∙ first_len n c.len_or.result [] (rest_lens n m (c.len_or.result ∷ [])
    (sym c.other_len.ensures ∙ c.in-None.is)))

pub returns-in-Some : goal.returns-in-Some
returns-in-Some g c =
    let n = length c.args.values.now in let m = length c.args.others.now in
    gives_refused n _ _ _ (subst (λ k. first_other n (m ∷ k ∷ []) ≡ Some c.in-Some.right)
    c.len_or.ensures (sym c.other_len.ensures ∙ c.in-Some.is))

pub returns-in-None : goal.returns-in-None
returns-in-None g c =
    let n = length c.args.values.now in let m = length c.args.others.now in
    gives_made n _ _ _ (subst (λ k. first_other n (m ∷ k ∷ []) ≡ None) c.len_or.ensures
    (sym c.other_len.ensures ∙ c.in-None.is)) c.compared_with.ensures
