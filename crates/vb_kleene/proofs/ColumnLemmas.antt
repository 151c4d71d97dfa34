-- Columns of truth values that may be null, and their parts.
use Rattle.std.proofs.Common.{◌≡◌, ℕ, Bool, true, false, not, ◌&&◌, List, length, map}
use Rattle.std.proofs.Common.{Option, Some, None, is_some, replicate, refl, sym, ap, ◌∙◌}
use Rattle.std.proofs.Common.{true≢false}
use Rattle.std.specs.Option.{option_map}
use Rattle.std.specs.Prelude.{slice_range}
use Rattle.std.specs.Simd.Lanes.{zip2}
use Rattle.std.proofs.lemmas.List.{length-map}
use Rattle.vb_bits.specs.Bits.{complement}
use Rattle.vb_bits.specs.Operators.{merged_by}
use Rattle.vb_bits.proofs.OperatorsLemmas.{length-merged_by}
use Rattle.vb_kleene.specs.Combined.{column, trues_by, valid_by}
use Rattle.vb_kleene.specs.Kleene.{truths, is_truth}
use Rattle.vb_kleene.specs.declared.column.Column.{Column}
use Rattle.vb_kleene.proofs.KleeneLemmas.{CombinedBy, trues_of, valid_of}
use Rattle.vb_kleene.proofs.KleeneLemmas.{trues_of_known, valid_of_known}
use Rattle.vb_kleene.proofs.KleeneLemmas.{where_true, where_false, all_true, all_false}
use Rattle.vb_kleene.proofs.KleeneLemmas.{length-truths}
use Rattle.vb_kleene.proofs.PartLemmas.{both_parts, part_negated}
use Rattle.vb_view.specs.View.{bits_of}
use Rattle.vb_view.specs.declared.view.BitBufferView.{BitBufferView}

-- the column that is built from values and a validity
pub column_of : (c : Column) (values : BitBufferView) (validity : Option BitBufferView)
    → c.values ≡ values → c.validity ≡ validity
    → column c ≡ truths (bits_of values) (option_map bits_of validity)
column_of c values validity e f =
    ap (λ x. truths (bits_of x) (option_map bits_of c.validity)) e
    ∙ ap (λ v. truths (bits_of values) (option_map bits_of v)) f

-- ---- a part, with x as its values and y as its validity
module _ (l m : List Bool) (v : Option (List Bool)) (x y : List Bool) (a b : ℕ) where
  pub true_part : v ≡ Some m → y ≡ slice_range m a b → x ≡ slice_range l a b
      → merged_by (λ a b. a && b) y x ≡ slice_range (map (is_truth true) (truths l v)) a b
  true_part e valid values =
      both_parts (λ a b. a && b) m l y x a b valid values
      ∙ ap (λ k. slice_range k a b)
      (where_true l m ∙ ap (λ w. map (is_truth true) (truths l w)) (sym e))

  pub false_part : v ≡ Some m → y ≡ slice_range m a b → x ≡ slice_range l a b
      → merged_by (λ a b. a && not b) y x ≡ slice_range (map (is_truth false) (truths l v)) a b
  false_part e valid values =
      both_parts (λ a b. a && not b) m l y x a b valid values
      ∙ ap (λ k. slice_range k a b)
      (where_false l m ∙ ap (λ w. map (is_truth false) (truths l w)) (sym e))

-- ---- a part with all values valid
module _ (l : List Bool) (v : Option (List Bool)) (x : List Bool) (a b : ℕ) where
  pub all_true_part : v ≡ None → x ≡ slice_range l a b
      → x ≡ slice_range (map (is_truth true) (truths l v)) a b
  all_true_part e values =
      values ∙ ap (λ k. slice_range k a b)
      (all_true l ∙ ap (λ w. map (is_truth true) (truths l w)) (sym e))

  pub all_false_part : v ≡ None → x ≡ slice_range l a b
      → complement x ≡ slice_range (map (is_truth false) (truths l v)) a b
  all_false_part e values =
      part_negated l x a b values ∙ ap (λ k. slice_range k a b)
      (all_false l ∙ ap (λ w. map (is_truth false) (truths l w)) (sym e))

-- ---- lengths
pub length-column : (c : Column) → length (column c) ≡ length (bits_of c.values)
length-column c = length-truths bits_of (bits_of c.values) c.validity c.one_each

length-where : (which : Bool) (c : Column)
    → length (map (is_truth which) (column c)) ≡ length (bits_of c.values)
length-where which c = length-map (column c) (is_truth which) ∙ length-column c

-- two columns of one length
module _ (l r : Column) (same : length (bits_of r.values) ≡ length (bits_of l.values)) where
  length-both : (f : Bool → Bool → Bool) (which : Bool)
      → length (merged_by f (map (is_truth which) (column l)) (map (is_truth which) (column r)))
      ≡ length (bits_of l.values)
  length-both f which =
      length-merged_by f (map (is_truth which) (column l)) (map (is_truth which) (column r))
      (length-where which l ∙ sym (length-where which r ∙ same)) ∙ length-where which l

  pub length-trues_by : (f : Bool → Bool → Bool)
      → length (trues_by f (column l) (column r)) ≡ length (bits_of l.values)
  length-trues_by f = length-both f true

  pub length-valid_by : (f g : Bool → Bool → Bool)
      → length (valid_by f g (column l) (column r)) ≡ length (bits_of l.values)
  length-valid_by f g =
      length-merged_by _ (trues_by f (column l) (column r))
      (merged_by g (map (is_truth false) (column l)) (map (is_truth false) (column r)))
      (length-trues_by f ∙ sym (length-both g false)) ∙ length-trues_by f

-- ---- the results for two views with validities
abbrev answers : (Option Bool → Option Bool → Option Bool) → BitBufferView → Option BitBufferView
    → BitBufferView → Option BitBufferView → List (Option Bool)
answers op l v r w =
    zip2 op (truths (bits_of l) (option_map bits_of v)) (truths (bits_of r) (option_map bits_of w))

-- which results are true, and which aren't null
pub record Answered (op : Option Bool → Option Bool → Option Bool) (l : BitBufferView)
    (v : Option BitBufferView) (r : BitBufferView) (w : Option BitBufferView)
    (true_bits valid_bits : List Bool) : Type 0 where
  pub trues : true_bits ≡ map (is_truth true) (answers op l v r w)
  pub valid : valid_bits ≡ map is_some (answers op l v r w)

-- there is no validity
none_is : {X : Type 0} (v : Option X) → is_some v ≡ false → v ≡ None
none_is None e = refl
none_is (Some x) e = absurd (true≢false e)

module _ {op : Option Bool → Option Bool → Option Bool} {f g : Bool → Bool → Bool}
    (by : CombinedBy op f g) where
  -- from columns built from the views
  pub answered_by : {l r : BitBufferView} {v w : Option BitBufferView} → (x y : Column)
      → x.values ≡ l → x.validity ≡ v → y.values ≡ r → y.validity ≡ w
      → Answered op l v r w (trues_by f (column x) (column y)) (valid_by f g (column x) (column y))
  answered_by {l} {r} {v} {w} x y xl xv yr yw =
      let a = truths (bits_of l) (option_map bits_of v) in
      let b = truths (bits_of r) (option_map bits_of w) in
      let left = column_of x l v xl xv in let right = column_of y r w yr yw in
      record {
        trues = ap (λ k. trues_by f k (column y)) left ∙ ap (trues_by f a) right ∙ trues_of by a b;
        valid = ap (λ k. valid_by f g k (column y)) left ∙ ap (valid_by f g a) right
            ∙ valid_of by a b;
      }

  -- from the values, if there are no validities
  pub answered_known : (l : BitBufferView) (v : Option BitBufferView) (r : BitBufferView)
      (w : Option BitBufferView) → is_some v ≡ false → is_some w ≡ false
      → length (bits_of r) ≡ length (bits_of l) → Answered op l v r w
      (merged_by f (bits_of l) (bits_of r)) (replicate (length (bits_of l)) true)
  answered_known l v r w left right same =
      let none : answers op l None r None ≡ answers op l v r w =
      ap (λ k. answers op l k r None) (sym (none_is v left))
      ∙ ap (λ k. answers op l v r k) (sym (none_is w right)) in
      record {
        trues = trues_of_known by (bits_of l) (bits_of r) ∙ ap (map (is_truth true)) none;
        valid = valid_of_known by (bits_of l) (bits_of r) same ∙ ap (map is_some) none;
      }
