-- Written by tools/write-lists from tools/families/kleene.txt.
use Rattle.std.proofs.Common.{not, ap, ◌∙◌}
use Rattle.vb_kleene.proofs.ColumnLemmas.{answered_by, answered_known}
use Rattle.vb_kleene.proofs.KleeneLemmas.{or_combined, trues_of, valid_of}
use Rattle.vb_kleene.proofs.PartLemmas.{Writes-as}
use Rattle.vb_kleene.proofs.kleene.or_kleene_into.Goals as goal

pub returns : goal.returns
returns c =
    let left = c.new-left in let right = c.new-right in let wrote = c.write_combined.ensures in
    let made = answered_by or_combined left.result right.result left.ensures.values
    left.ensures.validity right.ensures.values right.ensures.validity in
    record { trues = Writes-as made.trues wrote.trues; valid = Writes-as made.valid wrote.valid }

pub returns-then-is_none-2 : goal.returns-then-is_none-2
returns-then-is_none-2 c =
    let a = c.args in let wrote = c.write_known.ensures in
    let made = answered_known or_combined a.left a.left_validity a.right a.right_validity
    (c.is_none.ensures ∙ ap not c.if-is_none.true)
    (c.is_none-then-is_none.ensures ∙ ap not c.if-is_none-2.true) c.requires.right in
    record { trues = Writes-as made.trues wrote.trues; valid = Writes-as made.valid wrote.valid }

pub returns-then-len-le64 : goal.returns-then-len-le64
returns-then-len-le64 c =
    let wrote = c.write_few.ensures in
    record {
      trues = Writes-as (trues_of or_combined _ _) wrote.trues;
      valid = Writes-as (valid_of or_combined _ _) wrote.valid;
    }
