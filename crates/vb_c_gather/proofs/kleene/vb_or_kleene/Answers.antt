-- Written by tools/write-lists from tools/families/kleene.txt.
use Rattle.vb_kleene.specs.Kleene.{or_truths}
use Rattle.vb_c_gather.proofs.ColumnLemmas.{column_of, columns_combined, column_in_parts}
use Rattle.vb_c_gather.proofs.ColumnLemmas.{length-combined}
use Rattle.vb_c_gather.proofs.kleene.vb_or_kleene.Goals as goal

pub returns : goal.returns
returns c =
    let a = c.args in let written = c.or_kleene_into.ensures in
    column_in_parts a.t a.v a.len c.div_ceil-trues_end.result c.div_ceil-valid_end.result
    (length-combined or_truths a.left.now a.l a.left_all_valid a.left_validity.now
    a.left_validity_offset a.right.now a.r a.right_all_valid a.right_validity.now
    a.right_validity_offset a.len) c.requires.trues c.requires.valid
    c.div_ceil-trues_end.ensures c.div_ceil-valid_end.ensures
    (columns_combined or_truths
    (column_of a.left.now a.l a.left_all_valid a.left_validity.now a.left_validity_offset a.len _ _
    c.new_with_offset-left.ensures.bits c.valid_part-left_valid.ensures.valid)
    (column_of a.right.now a.r a.right_all_valid a.right_validity.now a.right_validity_offset a.len
    _ _ c.new_with_offset-right.ensures.bits c.valid_part-right_valid.ensures.valid)
    written.trues written.valid)
