-- Lists of truth values that are equal value by value.
use Rattle.std.proofs.Common.{◌≡◌, Bool, true, false, List, [], ◌∷◌, refl, sym, ap, ◌∙◌}
use Rattle.std.proofs.Common.{IsTrue, ◌↔◌}
use Rattle.std.specs.Bool.{beq}
use Rattle.std.specs.Cmp.Lexicographic.{pointwise}

-- a list of truth values equals itself
pointwise_own : (l : List Bool) → pointwise beq l l ≡ true
pointwise_own [] = refl
pointwise_own (true ∷ l) = pointwise_own l
pointwise_own (false ∷ l) = pointwise_own l

-- and two lists that are equal value by value are the same
pointwise_same : (l m : List Bool) → pointwise beq l m ≡ true → l ≡ m
pointwise_same [] [] e = refl
pointwise_same [] (c ∷ m) e = absurd cc
pointwise_same (b ∷ l) [] e = absurd cc
pointwise_same (true ∷ l) (true ∷ m) e = ap (λ x. true ∷ x) (pointwise_same l m e)
pointwise_same (true ∷ l) (false ∷ m) e = absurd cc
pointwise_same (false ∷ l) (true ∷ m) e = absurd cc
pointwise_same (false ∷ l) (false ∷ m) e = ap (λ x. false ∷ x) (pointwise_same l m e)

-- a test that holds exactly for equal lists is the test in the laws of `==`
pub is_pointwise : (r : Bool) (l m : List Bool) → IsTrue r ↔ (l ≡ m) → r ≡ pointwise beq l m
is_pointwise true l m e = sym (ap (pointwise beq l) (sym (e.0 refl)) ∙ pointwise_own l)
is_pointwise false l m e = go (pointwise beq l m) refl
  where
    go : (t : Bool) → pointwise beq l m ≡ t → false ≡ t
    go true h = e.1 (pointwise_same l m h)
    go false h = refl
