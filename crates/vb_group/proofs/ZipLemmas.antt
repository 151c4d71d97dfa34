-- Rows: codes and their values.
use Rattle.std.proofs.Common.{◌≡◌, ℕ, zero, suc, ◌-◌, ◌<◌, List, []}
use Rattle.std.proofs.Common.{◌∷◌, length, get_or, take, drop, refl, ap, ◌∙◌, arith}
use Rattle.std.specs.List.{zip}
use Rattle.std.specs.Prelude.{slice_range}

-- one row for each code
pub length-zip : {C V : Type 0} (codes : List C) (values : List V)
    → length values ≡ length codes → length (zip codes values) ≡ length codes
length-zip [] values same = refl
length-zip (c ∷ codes) [] same = absurd (omega arith)
length-zip (c ∷ codes) (v ∷ values) same = ap suc (length-zip codes values (omega arith))

-- one row
pub get_or-zip : {C V : Type 0} (codes : List C) (values : List V) (i : ℕ) (c : C) (v : V)
    (d : C × V) → i < length codes → length values ≡ length codes
    → get_or (zip codes values) i d ≡ (get_or codes i c, get_or values i v)
get_or-zip [] values i c v d inside same = absurd (omega arith)
get_or-zip (x ∷ codes) [] i c v d inside same = absurd (omega arith)
get_or-zip (x ∷ codes) (y ∷ values) zero c v d inside same = refl
get_or-zip (x ∷ codes) (y ∷ values) (suc i) c v d inside same =
    get_or-zip codes values i c v d (omega arith) (omega arith)

-- the first rows
pub take-zip : {C V : Type 0} (n : ℕ) (codes : List C) (values : List V)
    → take n (zip codes values) ≡ zip (take n codes) (take n values)
take-zip zero codes values = refl
take-zip (suc n) [] values = refl
take-zip (suc n) (c ∷ codes) [] = refl
take-zip (suc n) (c ∷ codes) (v ∷ values) = ap (λ l. (c, v) ∷ l) (take-zip n codes values)

-- and those after them
pub drop-zip : {C V : Type 0} (n : ℕ) (codes : List C) (values : List V)
    → length values ≡ length codes → drop n (zip codes values) ≡ zip (drop n codes) (drop n values)
drop-zip zero codes values same = refl
drop-zip (suc n) [] values same = refl
drop-zip (suc n) (c ∷ codes) [] same = absurd (omega arith)
drop-zip (suc n) (c ∷ codes) (v ∷ values) same = drop-zip n codes values (omega arith)

-- a range of rows
pub range-zip : {C V : Type 0} (codes : List C) (values : List V) (a b : ℕ)
    → length values ≡ length codes → slice_range (zip codes values) a b
    ≡ zip (slice_range codes a b) (slice_range values a b)
range-zip codes values a b same =
    ap (take (b - a)) (drop-zip a codes values same)
    ∙ take-zip (b - a) (drop a codes) (drop a values)
