-- Counts of rows by group.
use Rattle.std.proofs.Common.{◌≡◌, ℕ, ◌+◌, ◌%◌, ◌^◌, ℤ, pos, Bool, true, false, cond, List, []}
use Rattle.std.proofs.Common.{◌∷◌, length, map, refl, ap, ◌∙◌, arith}
use Rattle.std.proofs.Common.{Result, Ok, Err}
use Rattle.std.specs.List.{fold, filter, zip}
use Rattle.std.specs.Ordering.{int_eq}
use Rattle.std.specs.Prelude.{Option, Some, None, IfOk}
use Rattle.vb_bits.specs.Kept.{kept_by}
use Rattle.vb_group.specs.Groups.{selected, codes_of, values_of}

-- selected rows whose value is their code
kept_twice : {C : Type 0} (mask : List Bool) (codes : List C)
    → kept_by mask (zip codes codes) ≡ zip (kept_by mask codes) (kept_by mask codes)
kept_twice [] codes = refl
kept_twice (b ∷ mask) [] = refl
kept_twice (true ∷ mask) (c ∷ codes) = ap (λ l. (c, c) ∷ l) (kept_twice mask codes)
kept_twice (false ∷ mask) (c ∷ codes) = kept_twice mask codes

pub selected_twice : {C : Type 0} (mask : Option (List Bool)) (codes : List C)
    → selected mask (zip codes codes) ≡ zip (selected mask codes) (selected mask codes)
selected_twice None codes = refl
selected_twice (Some mask) codes = kept_twice mask codes

-- one more row in both lists, or none
split : {C : Type 0} (b : Bool) (c : C) (rows : List (C × C)) (codes : List C)
    → map (λ row. row.1) rows ≡ codes
    → map (λ row. row.1) (cond b ((c, c) ∷ rows) rows) ≡ cond b (c ∷ codes) codes
split true c rows codes same = ap (λ l. c ∷ l) same
split false c rows codes same = same

-- the values of a group are then its codes
pub values-codes : {C : Type 0} (number : C → ℤ) (g : ℕ) (codes : List C)
    → values_of number g (zip codes codes) ≡ codes_of number g codes
values-codes number g [] = refl
values-codes number g (c ∷ codes) =
    split (int_eq (number c) (pos g)) c
    (filter (λ row. int_eq (number row.0) (pos g)) (zip codes codes)) (codes_of number g codes)
    (values-codes number g codes)

-- one more for each
pub counted : {V : Type 0} (n : ℕ) (xs : List V)
    → fold (λ count _. (count + 1) % 2 ^ 64) n xs % 2 ^ 64 ≡ (n + length xs) % 2 ^ 64
counted n [] = omega arith
counted n (x ∷ xs) =
    let rest = counted ((n + 1) % 2 ^ 64) xs in
    rest ∙ omega arith

-- a fact about an `Ok` result leads to another one
pub if_ok : {A E : Type 0} (P Q : Type 0) (r : Result A E) → (P → Q) → IfOk r (λ _. P)
    → IfOk r (λ _. Q)
if_ok P Q (Ok a) leads fact = leads fact
if_ok P Q (Err e) leads fact = tt
