-- The results for many ranks, as lists.
use Rattle.std.proofs.Common.{ℕ, List, [], ◌∷◌, Option}
use Rattle.std.specs.List.{AllZip}

-- a relation that follows for each result follows for the lists
pub AllZip-through : (R S : ℕ → Option ℕ → Type 0) → ((x : ℕ) (y : Option ℕ) → R x y → S x y)
    → (xs : List ℕ) (ys : List (Option ℕ)) → AllZip R xs ys → AllZip S xs ys
AllZip-through R S f [] [] z = tt
AllZip-through R S f [] (y ∷ ys) z = absurd z
AllZip-through R S f (x ∷ xs) [] z = absurd z
AllZip-through R S f (x ∷ xs) (y ∷ ys) z = (f x y z.0, AllZip-through R S f xs ys z.1)
