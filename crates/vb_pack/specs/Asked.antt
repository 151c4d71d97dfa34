-- Calls of a closure, and the truth values that it returns.
use Rattle.std.specs.Prelude.{◌≡◌, ℕ, Bool, List, [], ◌∷◌}
use Rattle.std.specs.List.{range_with_len}

-- the n numbers from a on
unfoldable pub span : ℕ → ℕ → List ℕ
span a n = range_with_len a n

-- calls of a closure with xs in turn, from state p on, returned bs and ended in state q
abbrev pub Answers : {F A : Type 0} → (F → A → Bool → F → Type 0)
    → F → List A → List Bool → F → Type 0
Answers step p [] [] q = p ≡ q
Answers step p [] (b ∷ bs) q = ⊥
Answers step p (x ∷ xs) [] q = ⊥
Answers {F} step p (x ∷ xs) (b ∷ bs) q = (r : F) × step p x b r × Answers step r xs bs q

-- a closure in state p can be called with xs in turn, whatever it returns
abbrev pub CanAsk : {F A R : Type 0} → (F → A → Type 0) → (F → A → R → F → Type 0)
    → F → List A → Type 0
CanAsk pre step p [] = Unit {0}
CanAsk {F} {A} {R} pre step p (x ∷ xs) =
    pre p x × ((b : R) (q : F) → step p x b q → CanAsk pre step q xs)
