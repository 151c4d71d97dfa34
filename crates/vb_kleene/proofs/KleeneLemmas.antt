-- Truth values that may be null, and their combinations: which of them are true, false and valid.
use Rattle.std.proofs.Common.{◌≡◌, ℕ, Bool, true, false, not, ◌&&◌, ◌||◌, List, [], ◌∷◌, length}
use Rattle.std.proofs.Common.{map, replicate, Option, Some, None, is_some, refl, sym, ap, ◌∙◌}
use Rattle.std.proofs.Common.{arith}
use Rattle.std.specs.Option.{ForSome, option_map}
use Rattle.std.specs.Simd.Lanes.{zip2}
use Rattle.std.proofs.lemmas.List.{length-replicate}
use Rattle.std.proofs.lemmas.Simd.{length-zip2}
use Rattle.vb_bits.specs.Bits.{complement}
use Rattle.vb_bits.specs.Operators.{merged_by}
use Rattle.vb_kleene.specs.Combined.{trues_by, valid_by}
use Rattle.vb_kleene.specs.Kleene.{and_truths, or_truths, nullable, truths, valid_list, is_truth}

-- ---- columns
-- valid and true
pub where_true : (values valid : List Bool)
    → merged_by (λ a b. a && b) valid values ≡ map (is_truth true) (zip2 nullable values valid)
unfolding merged_by
where_true [] [] = refl
where_true [] (k ∷ valid) = refl
where_true (x ∷ values) [] = refl
where_true (x ∷ values) (true ∷ valid) = ap (λ l. x ∷ l) (where_true values valid)
where_true (x ∷ values) (false ∷ valid) = ap (λ l. false ∷ l) (where_true values valid)

-- valid and false
pub where_false : (values valid : List Bool)
    → merged_by (λ a b. a && not b) valid values ≡ map (is_truth false) (zip2 nullable values valid)
unfolding merged_by
where_false [] [] = refl
where_false [] (k ∷ valid) = refl
where_false (x ∷ values) [] = refl
where_false (x ∷ values) (true ∷ valid) = ap (λ l. not x ∷ l) (where_false values valid)
where_false (x ∷ values) (false ∷ valid) = ap (λ l. false ∷ l) (where_false values valid)

-- the same if all are valid
pub all_true : (values : List Bool)
    → values ≡ map (is_truth true) (zip2 nullable values (replicate (length values) true))
all_true [] = refl
all_true (x ∷ values) = ap (λ l. x ∷ l) (all_true values)

pub all_false : (values : List Bool)
    → complement values
    ≡ map (is_truth false) (zip2 nullable values (replicate (length values) true))
all_false [] = refl
all_false (x ∷ values) = ap (λ l. not x ∷ l) (all_false values)

-- a validity is as long as its values
long_validity : {X : Type 0} (f : X → List Bool) (o : Option X) (n : ℕ)
    → ForSome o (λ x. length (f x) ≡ n) → length (valid_list n (option_map f o)) ≡ n
long_validity f None n h = length-replicate n true
long_validity f (Some x) n h = h x refl

-- and so is the list of truth values
pub length-truths : {X : Type 0} (f : X → List Bool) (l : List Bool) (v : Option X)
    → ForSome v (λ x. length (f x) ≡ length l) → length (truths l (option_map f v)) ≡ length l
length-truths f l v h =
    length-zip2 nullable l (valid_list (length l) (option_map f v))
    (sym (long_validity f v (length l) h))

-- ---- `and` and `or`
-- from the true values of both sides, f gives the true results; from the false values, g gives the
-- false ones; the result of two values that aren't null isn't null
pub record CombinedBy (op : Option Bool → Option Bool → Option Bool) (f g : Bool → Bool → Bool)
    : Type 0 where
  pub trues : (a b : Option Bool) → f (is_truth true a) (is_truth true b) ≡ is_truth true (op a b)
  pub valid : (a b : Option Bool) → (f (is_truth true a) (is_truth true b)
      || g (is_truth false a) (is_truth false b)) ≡ is_some (op a b)
  pub known : (x y : Bool) → true ≡ is_some (op (Some x) (Some y))

pub and_combined : CombinedBy and_truths (λ a b. a && b) (λ a b. a || b)
and_combined = record { trues = trues; valid = valid; known = known }
  where
    trues : (a b : Option Bool)
        → (is_truth true a && is_truth true b) ≡ is_truth true (and_truths a b)
    trues None None = refl
    trues None (Some true) = refl
    trues None (Some false) = refl
    trues (Some true) b = refl
    trues (Some false) b = refl

    valid : (a b : Option Bool) → ((is_truth true a && is_truth true b)
        || (is_truth false a || is_truth false b)) ≡ is_some (and_truths a b)
    valid None None = refl
    valid None (Some true) = refl
    valid None (Some false) = refl
    valid (Some true) None = refl
    valid (Some true) (Some true) = refl
    valid (Some true) (Some false) = refl
    valid (Some false) None = refl
    valid (Some false) (Some true) = refl
    valid (Some false) (Some false) = refl

    known : (x y : Bool) → true ≡ is_some (and_truths (Some x) (Some y))
    known true y = refl
    known false y = refl

pub or_combined : CombinedBy or_truths (λ a b. a || b) (λ a b. a && b)
or_combined = record { trues = trues; valid = valid; known = known }
  where
    trues : (a b : Option Bool)
        → (is_truth true a || is_truth true b) ≡ is_truth true (or_truths a b)
    trues None None = refl
    trues None (Some true) = refl
    trues None (Some false) = refl
    trues (Some true) b = refl
    trues (Some false) b = refl

    valid : (a b : Option Bool) → ((is_truth true a || is_truth true b)
        || (is_truth false a && is_truth false b)) ≡ is_some (or_truths a b)
    valid None None = refl
    valid None (Some true) = refl
    valid None (Some false) = refl
    valid (Some true) None = refl
    valid (Some true) (Some true) = refl
    valid (Some true) (Some false) = refl
    valid (Some false) None = refl
    valid (Some false) (Some true) = refl
    valid (Some false) (Some false) = refl

    known : (x y : Bool) → true ≡ is_some (or_truths (Some x) (Some y))
    known true y = refl
    known false y = refl

-- ---- combinations of columns
module _ {op : Option Bool → Option Bool → Option Bool} {f g : Bool → Bool → Bool}
    (by : CombinedBy op f g) where
  pub trues_of : (l r : List (Option Bool)) → trues_by f l r ≡ map (is_truth true) (zip2 op l r)
  unfolding merged_by
  trues_of [] r = refl
  trues_of (a ∷ l) [] = refl
  trues_of (a ∷ l) (b ∷ r) =
      ap (λ x. x ∷ trues_by f l r) (by.trues a b)
      ∙ ap (λ k. is_truth true (op a b) ∷ k) (trues_of l r)

  pub valid_of : (l r : List (Option Bool)) → valid_by f g l r ≡ map is_some (zip2 op l r)
  unfolding merged_by
  valid_of [] r = refl
  valid_of (a ∷ l) [] = refl
  valid_of (a ∷ l) (b ∷ r) =
      ap (λ x. x ∷ valid_by f g l r) (by.valid a b)
      ∙ ap (λ k. is_some (op a b) ∷ k) (valid_of l r)

  -- without nulls
  pub trues_of_known : (l r : List Bool)
      → merged_by f l r ≡ map (is_truth true) (zip2 op (truths l None) (truths r None))
  trues_of_known l r =
      ap (λ k. merged_by f k r) (all_true l)
      ∙ ap (merged_by f (map (is_truth true) (truths l None))) (all_true r)
      ∙ trues_of (truths l None) (truths r None)

  pub valid_of_known : (l r : List Bool) → length r ≡ length l
      → replicate (length l) true ≡ map is_some (zip2 op (truths l None) (truths r None))
  valid_of_known [] r e = refl
  valid_of_known (x ∷ l) [] e = absurd (omega arith)
  valid_of_known (x ∷ l) (y ∷ r) e =
      ap (λ k. true ∷ k) (valid_of_known l r (omega arith))
      ∙ ap (λ b. b ∷ map is_some (zip2 op (truths l None) (truths r None))) (by.known x y)
