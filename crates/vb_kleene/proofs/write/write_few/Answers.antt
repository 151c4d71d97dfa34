use Rattle.std.proofs.Common.{◌≡◌, ℕ, ◌+◌, ◌-◌, Bool, List, length, take, Option, sym, ap, ◌∙◌}
use Rattle.std.proofs.Common.{arith}
use Rattle.std.specs.Option.{option_map}
use Rattle.std.specs.Prelude.{slice_range}
use Rattle.std.proofs.lemmas.List.{take_all}
use Rattle.vb_kleene.specs.Combined.{column, trues_by, valid_by}
use Rattle.vb_kleene.specs.Kleene.{truths}
use Rattle.vb_kleene.specs.declared.column.Column.{Column}
use Rattle.vb_kleene.proofs.ColumnLemmas.{column_of, length-trues_by, length-valid_by}
use Rattle.vb_kleene.proofs.PartLemmas.{Writes-as}
use Rattle.vb_view.specs.View.{bits_of}
use Rattle.vb_view.specs.declared.view.BitBufferView.{BitBufferView}
use Rattle.vb_kleene.proofs.write.write_few.Goals as goal

-- all as one part
all : (n : ℕ) (l : List Bool) → length l ≡ n → slice_range l 0 (0 + n) ≡ l
all n l same =
    let long : 0 + n - 0 ≡ n = omega arith in
    ap (λ k. take k l) long ∙ take_all n l (omega arith)

-- all results of two columns, from the views that they are built from
module _ (q : List (Option Bool) → List (Option Bool) → List Bool) (x y : Column)
    (l r : BitBufferView) (v w : Option BitBufferView) (n : ℕ) where
  all_results : x.values ≡ l → x.validity ≡ v → y.values ≡ r → y.validity ≡ w
      → length (q (column x) (column y)) ≡ n → slice_range (q (column x) (column y)) 0 (0 + n)
      ≡ q (truths (bits_of l) (option_map bits_of v)) (truths (bits_of r) (option_map bits_of w))
  all_results xl xv yr yw same =
      all n (q (column x) (column y)) same
      ∙ ap (λ k. q k (column y)) (column_of x l v xl xv)
      ∙ ap (q (truths (bits_of l) (option_map bits_of v))) (column_of y r w yr yw)

-- the columns are of one length
columns_same : (x y : Column) (l r : BitBufferView) → x.values ≡ l → y.values ≡ r
    → length (bits_of r) ≡ length (bits_of l)
    → length (bits_of y.values) ≡ length (bits_of x.values)
columns_same x y l r xl yr same =
    ap (λ k. length (bits_of k)) yr ∙ same ∙ sym (ap (λ k. length (bits_of k)) xl)

pub returns-clause-trues : goal.returns-clause-trues
returns-clause-trues g c =
    let a = c.args in let left = c.new-left in let right = c.new-right in
    let f = g.T.Merge.bit in
    let same = columns_same left.result right.result a.left a.right left.ensures.values
    right.ensures.values c.requires.right in
    Writes-as (c.word-true_word.ensures.trues
    ∙ all_results (trues_by f) left.result right.result a.left a.right a.left_validity
    a.right_validity c.len-n.result left.ensures.values left.ensures.validity
    right.ensures.values right.ensures.validity
    (length-trues_by left.result right.result same f
    ∙ ap (λ k. length (bits_of k)) left.ensures.values ∙ sym c.len-n.ensures))
    c.write_results.ensures

pub returns-clause-valid : goal.returns-clause-valid
returns-clause-valid g c =
    let a = c.args in let left = c.new-left in let right = c.new-right in
    let f = g.T.Merge.bit in let h = g.F.Merge.bit in
    let same = columns_same left.result right.result a.left a.right left.ensures.values
    right.ensures.values c.requires.right in
    Writes-as (c.word-true_word.ensures.valid
    ∙ all_results (valid_by f h) left.result right.result a.left a.right a.left_validity
    a.right_validity c.len-n.result left.ensures.values left.ensures.validity
    right.ensures.values right.ensures.validity
    (length-valid_by left.result right.result same f h
    ∙ ap (λ k. length (bits_of k)) left.ensures.values ∙ sym c.len-n.ensures))
    c.write_results-2.ensures
