-- Sums of whole numbers.
use Rattle.std.specs.Prelude.{◌≡◌, ◌≢◌, ℕ, ◌*◌, ℤ, pos, ◌+ℤ◌, ◌≤ℤ◌, List, length, map, Option}
use Rattle.std.specs.Prelude.{Some, None}
use Rattle.std.specs.List.{fold}

-- the sum of whole numbers
abbrev pub int_sum : List ℤ → ℤ
int_sum numbers = fold ◌+ℤ◌ (pos 0) numbers

-- a number is at most n from 0
pub record Within (n : ℕ) (z : ℤ) : Type 0 where
  pub above : pos 0 ≤ℤ (z +ℤ pos n)
  pub below : z ≤ℤ pos n

-- a number is the sum of values that are each at most `reach` from 0; so it is at most length
-- values * reach from 0
pub record IsSum {T : Type 0} (number : T → ℤ) (reach : ℕ) (values : List T) (z : ℤ) : Type 0 where
  pub sum : z ≡ int_sum (map number values)
  pub within : Within (length values * reach) z

-- the result is a value that is the number z; None if no value of the type is
abbrev pub IsValueOf : {T : Type 0} → (T → Type 0) → (T → ℤ) → ℤ → Option T → Type 0
IsValueOf {T} is_in_type number z None = (x : T) → is_in_type x → number x ≢ z
IsValueOf is_in_type number z (Some x) = number x ≡ z
