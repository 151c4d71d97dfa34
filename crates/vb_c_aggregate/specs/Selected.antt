-- The values whose bit of a mask in bytes is true, and their aggregates.
use Rattle.std.specs.Float.{Float, Format}
use Rattle.std.specs.Prelude.{◌≡◌, ℕ, ℤ, List, [], length, map, Option, MatchOption}
use Rattle.std.specs.declared.cmp.Ordering.{Ordering}
use Rattle.vb_aggregate.specs.Extremes.{IsLeast, IsGreatest}
use Rattle.vb_aggregate.specs.Floats.{float_sum, AreNan, IsFirstNumber}
use Rattle.vb_aggregate.specs.Sums.{int_sum}
use Rattle.vb_bits.specs.Bits.{bits}
use Rattle.vb_bits.specs.Kept.{kept_by}

-- the values whose bit is true, from bit m of the mask on
abbrev pub selected : {T : Type 0} → List T → List ℕ → ℕ → List T
selected values mask m = kept_by (bits mask m (length values)) values

-- their sum
abbrev pub sum_of : {T : Type 0} → (T → ℤ) → List T → List ℕ → ℕ → ℤ
sum_of number values mask m = int_sum (map number (selected values mask m))

-- the least of them; None if there are none
abbrev pub LeastOf : {T : Type 0} → (T → ℤ) → List T → List ℕ → ℕ → Option T → Type 0
LeastOf number values mask m least =
    MatchOption least (selected values mask m ≡ []) (IsLeast number (selected values mask m))

-- the greatest of them; None if there are none
abbrev pub GreatestOf : {T : Type 0} → (T → ℤ) → List T → List ℕ → ℕ → Option T → Type 0
GreatestOf number values mask m greatest =
    MatchOption greatest (selected values mask m ≡ [])
    (IsGreatest number (selected values mask m))

-- their sum, of floats
abbrev pub float_sum_of : {T : Type 0} → Format → (T → Float) → List T → List ℕ → ℕ → Float
float_sum_of format float values mask m = float_sum format (map float (selected values mask m))

-- the first number among them, in an order; None if there are only NaNs
abbrev pub FirstOf : {T : Type 0} → (Float → Float → Ordering) → (T → Float) → List T → List ℕ
    → ℕ → Option T → Type 0
FirstOf order float values mask m first =
    MatchOption first (AreNan float (selected values mask m))
    (IsFirstNumber order float (selected values mask m))
