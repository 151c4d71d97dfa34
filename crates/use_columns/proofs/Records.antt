-- A record at the front of a file.
use Rattle.std.proofs.Common.{◌≡◌, ℕ, suc, ◌+◌, ◌-◌, ◌≤◌, List, [], ◌∷◌, ◌++◌, length, take, drop}
use Rattle.std.proofs.Common.{slice_index, slice_range, sym, subst, arith}
use Rattle.std.proofs.lemmas.Grind.{common_steps}
use Rattle.std.proofs.lemmas.List.{take-append-drop}
use Rattle.use_columns.specs.Format.{record_of}

pub record_front : (file : List ℕ) (n : ℕ) → n ≡ slice_index file 0
    → 1 + n ≤ length file → record_of (slice_range file 1 (1 + n)) ++ drop (1 + n) file ≡ file
record_front [] n same fits = absurd (omega arith)
record_front (first ∷ rest) n same fits =
    let step : 1 + n ≡ suc n = omega arith in
    let less : suc n - 1 ≡ n = omega arith in
    let len : length (take n rest) ≡ first = grind (arith, common_steps) in
    let whole = take-append-drop n rest in
    let P : ℕ → Type 0 =
    λ m. record_of (slice_range (first ∷ rest) 1 m) ++ drop m (first ∷ rest) ≡ first ∷ rest in
    let Q : ℕ → Type 0 = λ m. record_of (take m rest) ++ drop n rest ≡ first ∷ rest in
    subst P (sym step) (subst Q (sym less) (cc))
