-- Written by tools/write-lists from tools/families/kleene.txt.
use Rattle.vb_view.specs.View.{bits_of}
use Rattle.vb_kleene.specs.Kleene.{and_truths}
use Rattle.vb_gather.proofs.KleeneLemmas.{column_made}
use Rattle.vb_gather.proofs.kleene.and_kleene.Goals as goal

pub returns : goal.returns
returns g c =
    let a = c.args in let need = c.requires in let written = c.and_kleene_into.ensures in
    column_made bits_of and_truths (bits_of a.left) (bits_of a.right) a.left_validity
    a.right_validity need.right need.left_valid need.right_valid c.len-len.result _ _ _ _ _ _
    c.two_sets.result c.len-len.ensures c.as_mut_slice-to.ensures.value written.trues
    c.as_mut_slice-known.ensures.value written.valid c.two_sets.ensures
