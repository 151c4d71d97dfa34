-- Lists written into memory item by item.
use Rattle.std.proofs.Common.{◌≡◌, ℕ, suc, ◌+◌, ◌<◌, List, [], ◌∷◌, ◌++◌, length, drop, set, refl}
use Rattle.std.proofs.Common.{ap, ◌∙◌, arith}

-- writing the item after those already written
set_suc : {T : Type 0} (xs old : List T) (v : T) → length xs < length old
    → set (xs ++ drop (length xs) old) (length xs) v ≡ (xs ++ v ∷ []) ++ drop (suc (length xs)) old
set_suc [] [] v h = absurd (omega arith)
set_suc [] (o ∷ old) v h = refl
set_suc (x ∷ xs) [] v h = absurd (omega arith)
set_suc (x ∷ xs) (o ∷ old) v h = ap (λ l. x ∷ l) (set_suc xs old v (omega (arith, h)))

pub set_next : {T : Type 0} (xs old out : List T) (v : T) (n : ℕ) → n ≡ length xs → n < length old
    → out ≡ xs ++ drop n old → set out n v ≡ (xs ++ v ∷ []) ++ drop (n + 1) old
set_next xs old out v n len room items =
    let one : suc (length xs) ≡ n + 1 = omega (arith, len) in
    ap (λ l. set l n v) items ∙ ap (λ k. set (xs ++ drop k old) k v) len
    ∙ set_suc xs old v (omega (arith, len, room)) ∙ ap (λ k. (xs ++ v ∷ []) ++ drop k old) one
