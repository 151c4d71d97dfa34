-- Results of many selects, one by one and as lists.
use Rattle.std.proofs.Common.{◌≡◌, ℕ, suc, ◌<◌, List, [], ◌∷◌, Option, length, get_or, arith}
use Rattle.std.specs.List.{AllZip}

-- a relation that holds at each index holds for the lists
pub AllZip-each : (R : ℕ → Option ℕ → Type 0) (xs : List ℕ) (ys : List (Option ℕ))
    → length ys ≡ length xs
    → ((k : ℕ) (d : Option ℕ) → k < length xs → R (get_or xs k 0) (get_or ys k d))
    → AllZip R xs ys
AllZip-each R [] [] e h = tt
AllZip-each R [] (y ∷ ys) e h = absurd (omega (arith, e))
AllZip-each R (x ∷ xs) [] e h = absurd (omega (arith, e))
AllZip-each R (x ∷ xs) (y ∷ ys) e h = (
  h 0 y (omega arith),
  AllZip-each R xs ys (omega (arith, e)) (λ k d less. h (suc k) d (omega (arith, less))),
)
