-- Iterators whose items are counted. The laws of `TrustedLen` cite these lemmas, so they are in
-- specs.
use Rattle.std.specs.Prelude.{ℕ, ◌≡◌, ◌+◌, ◌-◌, ◌<◌, ℤ, pos, negsuc, ◌+ℤ◌, List, [], ◌∷◌, length}
use Rattle.std.specs.Prelude.{Option, Some, None}
use Rattle.std.proofs.Common.{suc, zero, true, arith, ap, ◌∙◌}
use Rattle.std.proofs.Math.IntN.{suc_ℤ, +ℤ_one}
use Rattle.std.specs.Int.{int_gap}
use Rattle.std.specs.Iterator.{Count, IsFinite, Drains, YieldsFirstBy, item_count, at_most}
use Rattle.std.specs.Iterator.Runs.{Run, YieldsRun}
use Rattle.std.specs.Range.{range_steps}
use Rattle.std.specs.Slice.Iter.{iter_rest, iter_steps}
use Rattle.vb_core.specs.Lengths.{IsExactCount, CountsDown, Counted}

module _ {S A : Type 0} (steps : S → Option A → S → Type 0) where
  -- the items of a run that ends in `None`
  drained : (run : Run steps) → run.whole ≡ true → Drains steps run.from run.items
  unfolding YieldsRun
  drained run whole =
      let last = run.gave.0.2 whole in (last.0, (run.gave.0.0, run.gave.0.1, last.1))

  module _ (remaining : S → Count) (left : S → ℕ)
      (one_less : (s : S) (item : A) (t : S) → steps s (Some item) t → left t + 1 ≡ left s)
      (none_left : (s t : S) → steps s None t → left s ≡ 0) where
    -- if each item lowers `left` by 1 and `None` comes only at 0, `left` is the number of items
    length-Drains : (s : S) (xs : List A) → Drains steps s xs → length xs ≡ left s
    length-Drains s [] (u, (t, same, none)) =
        let start : left s ≡ left t = ap left same in
        let here : left t ≡ 0 = none_left t u none in
        omega arith
    length-Drains s (x ∷ xs) (u, (t, (j, first, rest), none)) =
        let after : length xs ≡ left j = length-Drains j xs (u, (t, rest, none)) in
        let less : left j + 1 ≡ left s = one_less s x j first in
        omega arith

    -- and if the items end, `left` is an exact count
    pub exact_count : ((s : S) → IsFinite (remaining s)) → IsExactCount steps remaining left
    exact_count finite = record {
      is_length =
          λ s run _ from whole. run.long ∙ length-Drains run.from run.items (drained run whole)
          ∙ ap left from;
      one_less = one_less;
      none_left = none_left;
      finite = finite;
    }

-- the number of items in a range is the gap from its start to its end
range_counts : {A : Type 0} (gap : A → A → ℕ) (is_successor : A → A → Type 0)
    → ((x y end : A) → is_successor x y → 0 < gap x end → gap y end + 1 ≡ gap x end)
    → IsExactCount (range_steps gap is_successor) (λ s. at_most (gap s.start s.end))
    (λ s. gap s.start s.end)
range_counts gap is_successor nearer =
    exact_count (range_steps gap is_successor) (λ s. at_most (gap s.start s.end))
    (λ s. gap s.start s.end)
    (λ s item t step.
    ap (λ end. gap t.start end + 1) step.0 ∙ nearer s.start t.start s.end step.1.2 step.1.0)
    (λ s t step. step.1.0)
    (λ s. tt)

-- the ranges of unsigned numbers
pub unsigned_range_counts : IsExactCount (range_steps (λ (x y : ℕ). y - x) (λ x y. y ≡ x + 1))
    (λ s. at_most (s.end - s.start)) (λ s. s.end - s.start)
unsigned_range_counts =
    range_counts (λ (x y : ℕ). y - x) (λ x y. y ≡ x + 1) (λ x y end next below. omega arith)

-- the gap to a greater number shrinks by 1 at the next integer
int_gap-suc_ℤ : (x end : ℤ) → 0 < int_gap x end → int_gap (suc_ℤ x) end + 1 ≡ int_gap x end
int_gap-suc_ℤ (pos a) (pos b) below = omega arith
int_gap-suc_ℤ (pos a) (negsuc b) below = absurd (omega arith)
int_gap-suc_ℤ (negsuc zero) (pos b) below = omega arith
int_gap-suc_ℤ (negsuc zero) (negsuc b) below = absurd (omega arith)
int_gap-suc_ℤ (negsuc (suc a)) (pos b) below = omega arith
int_gap-suc_ℤ (negsuc (suc a)) (negsuc b) below = omega arith

-- the ranges of signed numbers
pub signed_range_counts : IsExactCount (range_steps int_gap (λ x y. y ≡ x +ℤ pos 1))
    (λ s. at_most (int_gap s.start s.end)) (λ s. int_gap s.start s.end)
signed_range_counts =
    range_counts int_gap (λ x y. y ≡ x +ℤ pos 1)
    (λ x y end next below.
    ap (λ z. int_gap z end + 1) (next ∙ +ℤ_one x) ∙ int_gap-suc_ℤ x end below)

-- the number of remaining items of a slice iterator is the length of its rest
pub slice_iter_counts : {T : Type 0} → IsExactCount (iter_steps {A = T})
    (λ s. at_most (length (iter_rest s))) (λ s. length (iter_rest s))
slice_iter_counts =
    exact_count iter_steps (λ s. at_most (length (iter_rest s))) (λ s. length (iter_rest s))
    (λ s item t step. let same = ap length step in omega arith)
    (λ s t step. step.0)
    (λ s. tt)

-- the number that is kept with an iterator and counts down is an exact count
pub adapter_counts : {I A : Type 0} (steps : I → Option A → I → Type 0)
    → IsExactCount
    (λ (s : Counted I) r (t : Counted I). CountsDown (steps s.iter r t.iter) s.left r t.left)
    (λ s. at_most s.left) (λ s. s.left)
adapter_counts steps =
    exact_count
    (λ (s : Counted _) r (t : Counted _). CountsDown (steps s.iter r t.iter) s.left r t.left)
    (λ s. at_most s.left) (λ s. s.left)
    (λ s item t step. step.0)
    (λ s t step. step.0)
    (λ s. tt)

-- if an iterator's state shows the list of its remaining items, their number is the list's length
pub list_counts : {S A B : Type 0} (view : A → B) (rest : S → List B)
    → IsExactCount (YieldsFirstBy view rest) (item_count rest) (λ s. length (rest s))
list_counts view rest =
    exact_count (YieldsFirstBy view rest) (item_count rest) (λ s. length (rest s))
    (λ s item t step. let same = ap length step in omega arith)
    (λ s t step. ap length step.0)
    (λ s. tt)
