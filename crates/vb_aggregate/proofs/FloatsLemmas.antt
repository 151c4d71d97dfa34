-- The sum of floats, and the least and the greatest number among them, one after the other.
use Rattle.std.proofs.Common.{◌≡◌, ◌≢◌, ◌⊎◌, ℕ, ◌+◌, ◌<◌, ◌≤◌, Bool, true, false, not}
use Rattle.std.proofs.Common.{◌&&◌, ◌||◌, cond, T, List, [], ◌∷◌, length, get_or, take}
use Rattle.std.proofs.Common.{◌++◌, All, map, refl, sym, ap, subst, ◌∙◌}
use Rattle.std.proofs.lemmas.Float.{lt_irrefl, lt_trans, lt_of_lt_of_le, lt_of_le_of_lt}
use Rattle.std.proofs.lemmas.Float.{le_of_not-lt, T_from_false}
use Rattle.std.proofs.lemmas.Bool.{false≢true, true≢false}
use Rattle.std.proofs.lemmas.List.{map-append, take_all, take_more}
use Rattle.std.proofs.lemmas.List.Elements.{All-nil, All-cons, All-push, All-append, All-weaker}
use Rattle.std.proofs.lemmas.List.Elements.{Contains-push, Contains-append_left}
use Rattle.std.proofs.lemmas.List.Sums.{fold_push}
use Rattle.std.specs.Float.{Float, Format, nan, inf, fin, float_zero, total_cmp}
use Rattle.std.specs.Float.{is_sign_negative, NotNan}
use Rattle.std.specs.Ordering.{is_lt}
use Rattle.std.specs.declared.cmp.Ordering.{Ordering}
use Rattle.std.specs.declared.cmp.Ordering.TheVariants.{Less, Equal, Greater}
use Rattle.vb_aggregate.specs.Floats.{float_sum, upwards, downwards, AreNan}
use Rattle.vb_aggregate.specs.Floats.{comes_before, IsFirstNumber, IsFirstSoFar}
use lib.Dec.{T_not, not_T}
use lib.Ieee.{add, lt, le, is_nan}
use mathlib.Core.Logic.{inl, inr}

-- one more float
pub float_sum-push : {V : Type 0} (format : Format) (float : V → Float) (xs : List V) (x : V)
    → float_sum format (map float (xs ++ (x ∷ [])))
    ≡ add format (float_sum format (map float xs)) (float x)
float_sum-push format float xs x =
    ap (float_sum format) (map-append float xs (x ∷ []))
    ∙ fold_push (add format) float_zero (map float xs) (float x)

-- an order of numbers
pub record IsOrder (order : Float → Float → Ordering) : Type 0 where
  pub irrefl : (x : Float) → NotNan x → order x x ≢ Less
  pub trans : (x y z : Float) → NotNan x → NotNan y → NotNan z → order x y ≡ Less
      → order y z ≡ Less → order x z ≡ Less

-- the result of `total_cmp`, from whether the first float is less, whether it is greater, and both
-- signs
abbrev result : Bool → Bool → Bool → Bool → Ordering
result less more s t =
    cond less Less (cond more Greater (cond s (cond t Equal Less) (cond t Greater Equal)))

-- the first number is less, or it is no greater, and only the first one is negative
abbrev IsBelow : Float → Float → Type 0
IsBelow x y =
    T (lt x y) ⊎ ((T (le x y)) × (T (is_sign_negative x) × T (not (is_sign_negative y))))

less_out : (less more s t : Bool) → result less more s t ≡ Less
    → T less ⊎ (T (not more) × (T s × T (not t)))
less_out true more s t h = inl tt
less_out false true s t h = absurd (false≢true (ap is_lt h))
less_out false false true true h = absurd (false≢true (ap is_lt h))
less_out false false true false h = inr (tt, (tt, tt))
less_out false false false true h = absurd (false≢true (ap is_lt h))
less_out false false false false h = absurd (false≢true (ap is_lt h))

less_in : (less more s t : Bool) → T less ⊎ (T (not more) × (T s × T (not t)))
    → result less more s t ≡ Less
less_in true more s t h = refl
less_in false more s t (inl h) = absurd h
less_in false true s t (inr h) = absurd h.0
less_in false false true true (inr h) = absurd h.1.1
less_in false false true false (inr h) = refl
less_in false false false t (inr h) = absurd h.1.0

below_out : (x y : Float) → NotNan x → NotNan y → total_cmp x y ≡ Less → IsBelow x y
below_out x y p q h =
    elim (less_out (lt x y) (lt y x) (is_sign_negative x) (is_sign_negative y) h) [
      | inl l ↦ inl l
      | inr t ↦ inr (le_of_not-lt y x q p t.0, t.1)
    ]

below_in : (x y : Float) → IsBelow x y → total_cmp x y ≡ Less
below_in x y (inl l) =
    less_in (lt x y) (lt y x) (is_sign_negative x) (is_sign_negative y) (inl l)
below_in x y (inr t) =
    less_in (lt x y) (lt y x) (is_sign_negative x) (is_sign_negative y)
    (inr (not_T (lt y x) (λ m. lt_irrefl x (lt_of_le_of_lt x y x t.0 m)), t.1))

below_trans : (x y z : Float) → IsBelow x y → IsBelow y z → IsBelow x z
below_trans x y z (inl a) (inl b) = inl (lt_trans x y z a b)
below_trans x y z (inl a) (inr b) = inl (lt_of_lt_of_le x y z a b.0)
below_trans x y z (inr a) (inl b) = inl (lt_of_le_of_lt x y z a.0 b)
below_trans x y z (inr a) (inr b) = absurd (T_not (is_sign_negative y) a.1.1 b.1.0)

below_irrefl : (x : Float) → IsBelow x x → ⊥
below_irrefl x (inl a) = lt_irrefl x a
below_irrefl x (inr a) = T_not (is_sign_negative x) a.1.1 a.1.0

pub upwards_order : IsOrder upwards
upwards_order = record {
  irrefl = λ x p h. below_irrefl x (below_out x x p p h);
  trans = λ x y z p q r a b.
      below_in x z (below_trans x y z (below_out x y p q a) (below_out y z q r b));
}

pub downwards_order : IsOrder downwards
downwards_order = record {
  irrefl = λ x p h. below_irrefl x (below_out x x p p h);
  trans = λ x y z p q r a b.
      below_in z x (below_trans z y x (below_out z y r q b) (below_out y x q p a));
}

-- a float for which `is_nan` is true is `nan`
only_nan : (x : Float) → is_nan x ≡ true → x ≡ nan
unfolding is_nan
only_nan nan h = refl
only_nan (inf s) h = absurd (false≢true h)
only_nan (fin s m e) h = absurd (false≢true h)

is_number : (x : Float) → is_nan x ≡ false → NotNan x
is_number x h = T_from_false (is_nan x) h

nan_is_none : (x : Float) → x ≡ nan → NotNan x → ⊥
unfolding is_nan
nan_is_none x h n = absurd (subst NotNan h n)

is_off : (b : Bool) → not b ≡ true → b ≡ false
is_off true h = absurd (false≢true h)
is_off false h = refl

before_yes : (none less : Bool) → (not none && less) ≡ true → T (not none) × (less ≡ true)
before_yes true less h = absurd (false≢true h)
before_yes false less h = (tt, h)

before_no : (none less : Bool) → (not none && less) ≡ false → T (not none) → less ≡ false
before_no true less h p = absurd p
before_no false less h p = h

not_less : (o : Ordering) → is_lt o ≡ false → o ≢ Less
not_less o h less = true≢false (sym (ap is_lt less) ∙ h)

less_is : (o : Ordering) → is_lt o ≡ true → o ≡ Less
less_is Less h = refl
less_is Equal h = absurd (false≢true h)
less_is Greater h = absurd (false≢true h)

-- no floats so far
pub first_none : {V : Type 0} (order : Float → Float → Ordering) (float : V → Float) (m : V)
    → float m ≡ nan → IsFirstSoFar order float [] m
first_none order float m h = record {
  none = λ n. All-nil (λ x. float x ≡ nan);
  some = λ n. absurd (nan_is_none (float m) h n);
}

module _ {V : Type 0} (order : Float → Float → Ordering) (is_order : IsOrder order)
    (float : V → Float) (xs : List V) (m x : V) where
  abbrev later : V → V → Type 0
  later a b = NotNan (float b) → order (float b) (float a) ≢ Less

  -- one more float, the first one that may be a number
  pub first_taken : is_nan (float m) ≡ true → IsFirstSoFar order float xs m
      → IsFirstSoFar order float (xs ++ (x ∷ [])) x
  first_taken none so_far = let before = so_far.none (only_nan (float m) none) in record {
    none = λ n. All-push (λ y. float y ≡ nan) xs x before n;
    some = λ n. record {
      there = Contains-push xs x;
      number = n;
      first = All-push (later x) xs x
          (All-weaker (λ y. float y ≡ nan) (later x) (λ y e p. absurd (nan_is_none (float y) e p))
          xs before) (λ p. is_order.irrefl (float x) p);
    };
  }

  -- one more number, which comes before the first one
  pub first_passed : is_nan (float m) ≡ false → comes_before order (float x) (float m) ≡ true
      → IsFirstSoFar order float xs m → IsFirstSoFar order float (xs ++ (x ∷ [])) x
  first_passed m_number before so_far =
      let told = so_far.some (is_number (float m) m_number) in
      let less = before_yes (is_nan (float x)) (is_lt (order (float x) (float m))) before in
      record {
        none = λ n. absurd (nan_is_none (float x) n less.0);
        some = λ n. record {
          there = Contains-push xs x;
          number = n;
          first = All-push (later x) xs x
              (All-weaker (later m) (later x) (λ y later_m p lower. later_m p
              (is_order.trans (float y) (float x) (float m) p n told.number lower
              (less_is (order (float x) (float m)) less.1))) xs told.first)
              (λ p. is_order.irrefl (float x) p);
        };
      }

-- floats that don't come before the first number so far
pub first_stays : {V : Type 0} (order : Float → Float → Ordering) (float : V → Float)
    (xs ys : List V) (m : V) → is_nan (float m) ≡ false
    → All (λ y. comes_before order (float y) (float m) ≡ false) ys
    → IsFirstSoFar order float xs m → IsFirstSoFar order float (xs ++ ys) m
first_stays order float xs ys m m_number others so_far =
    let told = so_far.some (is_number (float m) m_number) in
    record {
      none = λ n. absurd (nan_is_none (float m) n (is_number (float m) m_number));
      some = λ n. record {
        there = Contains-append_left xs ys m told.there;
        number = n;
        first = All-append (λ y. NotNan (float y) → order (float y) (float m) ≢ Less) xs ys
            told.first (All-weaker (λ y. comes_before order (float y) (float m) ≡ false)
            (λ y. NotNan (float y) → order (float y) (float m) ≢ Less)
            (λ y no_less p. not_less (order (float y) (float m))
            (before_no (is_nan (float y)) (is_lt (order (float y) (float m))) no_less p))
            ys others);
      };
    }

-- one of them
pub first_stays_one : {V : Type 0} (order : Float → Float → Ordering) (float : V → Float)
    (xs : List V) (m x : V) → is_nan (float m) ≡ false
    → comes_before order (float x) (float m) ≡ false
    → IsFirstSoFar order float xs m → IsFirstSoFar order float (xs ++ (x ∷ [])) m
first_stays_one order float xs m x m_number other =
    first_stays order float xs (x ∷ []) m m_number
    (All-cons (λ y. comes_before order (float y) (float m) ≡ false) x [] other
    (All-nil (λ y. comes_before order (float y) (float m) ≡ false)))

none_found : (a b : Bool) → (a || b) ≡ false → (a ≡ false) × (b ≡ false)
none_found true b h = absurd (true≢false h)
none_found false b h = (refl, h)

module _ {V : Type 0} (order : Float → Float → Ordering) (float : V → Float) (values : List V)
    (m : V) (i : ℕ) (found : Bool) where
  -- none of the first i values was found to come before the first number so far
  abbrev pub NoneFound : Type 0
  NoneFound = found ≡ false
      → All (λ y. comes_before order (float y) (float m) ≡ false) (take i values)

  -- nor the next one
  pub found_more : (x : V) (next : Bool) → i < length values → x ≡ get_or values i x
      → next ≡ comes_before order (float x) (float m) → NoneFound → (found || next) ≡ false
      → All (λ y. comes_before order (float y) (float m) ≡ false) (take (i + 1) values)
  found_more x next inside read is_next so_far none =
      let no_less : V → Type 0 = λ y. comes_before order (float y) (float m) ≡ false in
      let both = none_found found next none in
      subst (All no_less) (sym (take_more values i x inside))
      (All-push no_less (take i values) (get_or values i x) (so_far both.0)
      (subst no_less read (sym is_next ∙ both.1)))

  -- so the number stays the first one
  pub found_none : length values ≤ i → is_nan (float m) ≡ false → NoneFound
      → not found ≡ true → (xs : List V) → IsFirstSoFar order float xs m
      → IsFirstSoFar order float (xs ++ values) m
  found_none end m_number so_far none xs first =
      let no_less : V → Type 0 = λ y. comes_before order (float y) (float m) ≡ false in
      first_stays order float xs values m m_number
      (subst (All no_less) (take_all i values end) (so_far (is_off found none))) first

-- the result for all values, if m is a NaN, and if it is a number
module _ {V : Type 0} (order : Float → Float → Ordering) (float : V → Float) (xs : List V) (m : V)
    (so_far : IsFirstSoFar order float xs m) where
  pub told_none : is_nan (float m) ≡ true → AreNan float xs
  told_none none = so_far.none (only_nan (float m) none)

  pub told_some : is_nan (float m) ≡ false → IsFirstNumber order float xs m
  told_some some = so_far.some (is_number (float m) some)
