-- The number of items that an iterator has left.
use Rattle.std.specs.Prelude.{ℕ, ◌≡◌, ◌+◌, true, Option, Some, None, MatchOption}
use Rattle.std.specs.Iterator.{Count, IsFinite}
use Rattle.std.specs.Iterator.Runs.{EachRunFrom}

-- each run of calls from s that ends in `None` has n items
abbrev pub IsLength : {S A : Type 0} → (S → Option A → S → Type 0) → S → ℕ → Type 0
IsLength steps s n = EachRunFrom steps s (λ run. run.whole ≡ true → run.len ≡ n)

-- the law of `TrustedLen`: `left` is the number of items to come, each item lowers it by 1, `None`
-- comes only at 0, and the items end
pub record IsExactCount {S A : Type 0} (steps : S → Option A → S → Type 0) (remaining : S → Count)
    (left : S → ℕ) : Type 0 where
  pub is_length : (s : S) → IsLength steps s (left s)
  pub one_less : (s : S) (item : A) (t : S) → steps s (Some item) t → left t + 1 ≡ left s
  pub none_left : (s t : S) → steps s None t → left s ≡ 0
  pub finite : (s : S) → IsFinite (remaining s)

-- an iterator and its number of remaining items
pub record Counted (I : Type 0) : Type 0 where
  pub iter : I
  pub left : ℕ

-- a call with n remaining items returned r, and m items remain after it: r is `None` if n was 0,
-- else an item, and then G holds
abbrev pub CountsDown : {A : Type 0} → Type 0 → ℕ → Option A → ℕ → Type 0
CountsDown G n r m = MatchOption r ((n ≡ 0) × (m ≡ n)) (λ _. (m + 1 ≡ n) × G)
