-- Written by tools/write-lists from tools/families/kleene.txt.
use Rattle.std.proofs.Common.{◌≡◌, [], ◌∷◌, length, None, Some, sym, subst, ◌∙◌}
use Rattle.std.specs.Option.{ForSome, option_map}
use Rattle.vb_view.specs.View.{bits_of}
use Rattle.vb_gather.specs.OneLength.{first_other, length_or}
use Rattle.vb_gather.proofs.LengthsLemmas.{first_len, rest_lens, as_long, gives_made}
use Rattle.vb_gather.proofs.LengthsLemmas.{gives_refused, gives_read}
use Rattle.vb_gather.proofs.kleene.try_and_kleene.Goals as goal

pub and_kleene-requires-clause-right : goal.and_kleene-requires-clause-right
and_kleene-requires-clause-right g c =
    sym c.len.ensures ∙ first_len c.len-len.result c.len.result
    (c.len_or.result ∷ c.len_or-2.result ∷ []) (sym c.other_len.ensures ∙ c.in-None.is)
    ∙ c.len-len.ensures

pub and_kleene-requires-clause-left_valid : goal.and_kleene-requires-clause-left_valid
and_kleene-requires-clause-left_valid g c =
    let n = c.len-len.result in let m = c.len.result in
    let l = c.len_or in let r = c.len_or-2.result in
    subst (λ k. ForSome c.args.left_validity (λ x. length (bits_of x) ≡ k)) c.len-len.ensures
    (as_long bits_of n c.args.left_validity (sym l.ensures
    ∙ first_len n l.result (r ∷ []) (rest_lens n m (l.result ∷ r ∷ [])
    (sym c.other_len.ensures ∙ c.in-None.is))))

pub and_kleene-requires-clause-right_valid : goal.and_kleene-requires-clause-right_valid
and_kleene-requires-clause-right_valid g c =
    let n = c.len-len.result in let m = c.len.result in
    let l = c.len_or.result in let r = c.len_or-2 in
    subst (λ k. ForSome c.args.right_validity (λ x. length (bits_of x) ≡ k)) c.len-len.ensures
    (as_long bits_of n c.args.right_validity (sym r.ensures
    ∙ first_len n r.result [] (rest_lens n l (r.result ∷ [])
    (rest_lens n m (l ∷ r.result ∷ []) (sym c.other_len.ensures ∙ c.in-None.is)))))

pub returns-in-Some : goal.returns-in-Some
returns-in-Some g c =
    let n = c.len-len.result in let m = c.len.result in
    let l = c.len_or in let r = c.len_or-2 in
    let valid = length_or n (option_map bits_of c.args.right_validity) in
    gives_read n (length (bits_of c.args.left)) m (length (bits_of c.args.right))
    (λ k. length_or k (option_map bits_of c.args.left_validity))
    (λ k. length_or k (option_map bits_of c.args.right_validity)) _ _
    c.len-len.ensures c.len.ensures
    (gives_refused n _ _ _ (subst (λ k. first_other n (m ∷ k ∷ valid ∷ []) ≡ Some c.in-Some.other)
    l.ensures (subst (λ k. first_other n (m ∷ l.result ∷ k ∷ []) ≡ Some c.in-Some.other)
    r.ensures (sym c.other_len.ensures ∙ c.in-Some.is))))

pub returns-in-None : goal.returns-in-None
returns-in-None g c =
    let n = c.len-len.result in let m = c.len.result in
    let l = c.len_or in let r = c.len_or-2 in
    let valid = length_or n (option_map bits_of c.args.right_validity) in
    gives_read n (length (bits_of c.args.left)) m (length (bits_of c.args.right))
    (λ k. length_or k (option_map bits_of c.args.left_validity))
    (λ k. length_or k (option_map bits_of c.args.right_validity)) _ _
    c.len-len.ensures c.len.ensures
    (gives_made n _ _ _ (subst (λ k. first_other n (m ∷ k ∷ valid ∷ []) ≡ None) l.ensures
    (subst (λ k. first_other n (m ∷ l.result ∷ k ∷ []) ≡ None) r.ensures
    (sym c.other_len.ensures ∙ c.in-None.is))) c.and_kleene.ensures)
