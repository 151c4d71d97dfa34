-- The sum of floats, and the least and the greatest number among them.
use Rattle.std.specs.Float.{Float, Format, nan, float_zero, total_cmp, NotNan}
use Rattle.std.specs.List.{Contains, fold}
use Rattle.std.specs.declared.cmp.Ordering.TheVariants.{Less}
use Rattle.std.specs.declared.cmp.Ordering.{Ordering}
use Rattle.std.specs.Ordering.{is_lt}
use Rattle.std.specs.Prelude.{◌≡◌, ◌≢◌, Bool, ◌&&◌, not, is_nan, List, All}
use lib.Ieee.{add}

-- the sum of floats: from 0.0 on one after the other, each sum rounded
abbrev pub float_sum : Format → List Float → Float
float_sum format floats = fold (add format) float_zero floats

-- the order of numbers from the least one up, with -0.0 below 0.0
abbrev pub upwards : Float → Float → Ordering
upwards a b = total_cmp a b

-- the order of numbers from the greatest one down, with 0.0 above -0.0
abbrev pub downwards : Float → Float → Ordering
downwards a b = total_cmp b a

-- whether a is a number that comes before b
abbrev pub comes_before : (Float → Float → Ordering) → Float → Float → Bool
comes_before order a b = not (is_nan a) && is_lt (order a b)

-- no value is a number
abbrev pub AreNan : {V : Type 0} → (V → Float) → List V → Type 0
AreNan float values = All (λ x. float x ≡ nan) values

-- m is one of the values and a number, and no number among them comes before it
pub record IsFirstNumber {V : Type 0} (order : Float → Float → Ordering) (float : V → Float)
    (values : List V) (m : V) : Type 0 where
  pub there : Contains values m
  pub number : NotNan (float m)
  pub first : All (λ x. NotNan (float x) → order (float x) (float m) ≢ Less) values

-- m is the first number of the values so far; a NaN while they have none
pub record IsFirstSoFar {V : Type 0} (order : Float → Float → Ordering) (float : V → Float)
    (values : List V) (m : V) : Type 0 where
  pub none : float m ≡ nan → AreNan float values
  pub some : NotNan (float m) → IsFirstNumber order float values m
