-- Sums of whole numbers, one after the other.
use Rattle.std.proofs.Common.{◌≡◌, ℕ, ◌+◌, ◌*◌, List, [], ◌∷◌, ◌++◌, length, map, sym, ap}
use Rattle.std.proofs.Common.{subst, ◌∙◌, arith, length-append}
use Rattle.std.proofs.Common.{ℤ, pos, ◌+ℤ◌}
use Rattle.std.proofs.lemmas.List.{map-append}
use Rattle.std.specs.List.{fold}
use Rattle.std.proofs.lemmas.List.Sums.{fold_push, fold-append}
use Rattle.std.proofs.lemmas.Int.{ints}
use Rattle.vb_aggregate.specs.Sums.{int_sum, Within, IsSum}

-- one more number
pub int_sum-push : {T : Type 0} (number : T → ℤ) (xs : List T) (x : T)
    → int_sum (map number (xs ++ (x ∷ []))) ≡ int_sum (map number xs) +ℤ number x
int_sum-push number xs x =
    ap int_sum (map-append number xs (x ∷ []))
    ∙ fold_push ◌+ℤ◌ (pos 0) (map number xs) (number x)

-- a sum that starts from another number
int_sum_from : (a : ℤ) (xs : List ℤ) → fold ◌+ℤ◌ a xs ≡ a +ℤ int_sum xs
int_sum_from a [] = omega (arith, ints)
int_sum_from a (x ∷ xs) =
    let rest = int_sum_from (a +ℤ x) xs in
    let first = int_sum_from (pos 0 +ℤ x) xs in
    omega (arith, ints, rest, first)

-- the sum of two lists
pub int_sum-append : {T : Type 0} (number : T → ℤ) (xs ys : List T)
    → int_sum (map number (xs ++ ys)) ≡ int_sum (map number xs) +ℤ int_sum (map number ys)
int_sum-append number xs ys =
    ap int_sum (map-append number xs ys)
    ∙ fold-append ◌+ℤ◌ (pos 0) (map number xs) (map number ys)
    ∙ int_sum_from (int_sum (map number xs)) (map number ys)

-- a sum is no further from 0 than its terms together
pub within_sum : (m n : ℕ) (a b : ℤ) → Within m a → Within n b → Within (m + n) (a +ℤ b)
within_sum m n a b near close = record {
  above = omega (arith, ints, near.above, close.above);
  below = omega (arith, ints, near.below, close.below);
}

module _ {T : Type 0} (number : T → ℤ) (reach : ℕ) where
  -- no values
  pub sum_none : (z : ℤ) → z ≡ pos 0 → IsSum number reach [] z
  sum_none z none = record {
    sum = none;
    within = record { above = omega (arith, ints); below = omega (arith, ints) };
  }

  -- one more value
  pub sum_more : (xs : List T) (x : T) (z next : ℤ) → IsSum number reach xs z
      → next ≡ z +ℤ number x → Within reach (number x) → IsSum number reach (xs ++ (x ∷ [])) next
  sum_more xs x z next so_far added near = record {
    sum = added ∙ ap (λ s. s +ℤ number x) so_far.sum ∙ sym (int_sum-push number xs x);
    within =
        let many : length xs * reach + reach ≡ length (xs ++ (x ∷ [])) * reach =
        rw (length-append xs (x ∷ [])) (omega arith) in
        subst (λ s. Within (length (xs ++ (x ∷ [])) * reach) s) (sym added)
        (subst (λ k. Within k (z +ℤ number x)) many
        (within_sum (length xs * reach) reach z (number x) so_far.within near));
  }

  -- the values of another list
  pub sum_join : (xs ys : List T) (a b next : ℤ) → IsSum number reach xs a
      → IsSum number reach ys b → next ≡ a +ℤ b → IsSum number reach (xs ++ ys) next
  sum_join xs ys a b next left right added = record {
    sum = added ∙ ap (λ s. s +ℤ b) left.sum ∙ ap (λ s. int_sum (map number xs) +ℤ s) right.sum
        ∙ sym (int_sum-append number xs ys);
    within =
        let many : length xs * reach + length ys * reach ≡ length (xs ++ ys) * reach =
        rw (length-append xs ys) (omega arith) in
        subst (λ s. Within (length (xs ++ ys) * reach) s) (sym added)
        (subst (λ k. Within k (a +ℤ b)) many
        (within_sum (length xs * reach) (length ys * reach) a b left.within right.within));
  }

-- a sum that is wrapped around after each term
pub wrapped_more : {T : Type 0} (number : T → ℤ) (wrapped : ℤ → T) → ((sum : ℤ) (x : T)
    → wrapped (number (wrapped sum) +ℤ number x) ≡ wrapped (sum +ℤ number x))
    → (xs : List T) (x sum next : T) → next ≡ wrapped (number sum +ℤ number x)
    → sum ≡ wrapped (int_sum (map number xs))
    → next ≡ wrapped (int_sum (map number (xs ++ (x ∷ []))))
wrapped_more number wrapped wraps_on xs x sum next added so_far =
    added ∙ ap (λ s. wrapped (number s +ℤ number x)) so_far
    ∙ wraps_on (int_sum (map number xs)) x ∙ ap wrapped (sym (int_sum-push number xs x))
