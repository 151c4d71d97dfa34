-- The least and the greatest of values, one after the other.
use Rattle.std.proofs.Common.{◌≡◌, ℕ, ◌-◌, ◌<◌, ◌≤◌, ◌^◌, true, false, List, [], ◌∷◌, ◌++◌}
use Rattle.std.proofs.Common.{length, map, get_or, sym, ap, subst, ◌∙◌, arith}
use Rattle.std.proofs.Common.{ℤ, ◌≤ℤ◌}
use Rattle.std.specs.Int.{trailing_zeros, w64}
use Rattle.std.specs.Int.Bits.{bit_and}
use Rattle.std.specs.List.{Contains}
use Rattle.std.specs.Prelude.{int_lt, Option, Some, None, MatchOption}
use Rattle.std.proofs.lemmas.Int.{ints}
use Rattle.std.proofs.lemmas.List.Elements.{All-nil, All-cons, All-push, All-weaker}
use Rattle.std.proofs.lemmas.List.Elements.{All-tail, Contains-push}
use Rattle.std.proofs.lemmas.List.Elements.{Contains-append_left, Contains-append_cases}
use Rattle.vb_bits.specs.Digits.{digits}
use Rattle.vb_bits.specs.Kept.{kept_by}
use Rattle.vb_walk.proofs.WordOnes.{ones, ones_first, map-ones}
use Rattle.vb_aggregate.specs.Extremes.{IsLeast, IsGreatest, Chooses}
use mathlib.Core.Logic.{inl, inr}

-- a list whose first value is repeated contains no other values than without the repetition
once : {T : Type 0} (x m : T) (xs : List T) → Contains (x ∷ x ∷ xs) m → Contains (x ∷ xs) m
once x m xs there =
    elim (Contains-append_cases (x ∷ []) (x ∷ xs) m there) [
      | inl first ↦ Contains-append_left (x ∷ []) xs m first
      | inr rest ↦ rest
    ]

module _ {T : Type 0} (number : T → ℤ) where
  -- one value
  pub least_one : (x : T) → IsLeast number (x ∷ []) x
  least_one x = record {
    there = Contains-push [] x;
    least = All-cons (λ y. number x ≤ℤ number y) x [] (omega (arith, ints))
        (All-nil (λ y. number x ≤ℤ number y));
  }

  pub greatest_one : (x : T) → IsGreatest number (x ∷ []) x
  greatest_one x = record {
    there = Contains-push [] x;
    greatest = All-cons (λ y. number y ≤ℤ number x) x [] (omega (arith, ints))
        (All-nil (λ y. number y ≤ℤ number x));
  }

  -- a fold for the least value can start from one of the values
  pub least_chooses : Chooses (λ m xs. IsLeast number xs m)
  least_chooses = record {
    one = least_one;
    twice = λ x m xs so_far. record {
      there = once x m xs so_far.there;
      least = All-tail (λ y. number m ≤ℤ number y) x (x ∷ xs) so_far.least;
    };
  }

  pub greatest_chooses : Chooses (λ m xs. IsGreatest number xs m)
  greatest_chooses = record {
    one = greatest_one;
    twice = λ x m xs so_far. record {
      there = once x m xs so_far.there;
      greatest = All-tail (λ y. number y ≤ℤ number m) x (x ∷ xs) so_far.greatest;
    };
  }

  module _ (xs : List T) (m x : T) where
    -- one more value, which is less than the least
    pub least_below : IsLeast number xs m → int_lt (number x) (number m) ≡ true
        → IsLeast number (xs ++ (x ∷ [])) x
    least_below so_far less = record {
      there = Contains-push xs x;
      least = All-push (λ y. number x ≤ℤ number y) xs x
          (All-weaker (λ y. number m ≤ℤ number y) (λ y. number x ≤ℤ number y)
          (λ y le. omega (arith, ints)) xs so_far.least) (omega (arith, ints));
    }

    -- one more value, which isn't
    pub least_stays : IsLeast number xs m → int_lt (number x) (number m) ≡ false
        → IsLeast number (xs ++ (x ∷ [])) m
    least_stays so_far not_less = record {
      there = Contains-append_left xs (x ∷ []) m so_far.there;
      least = All-push (λ y. number m ≤ℤ number y) xs x so_far.least (omega (arith, ints));
    }

    -- one more value, which is greater than the greatest
    pub greatest_above : IsGreatest number xs m → int_lt (number m) (number x) ≡ true
        → IsGreatest number (xs ++ (x ∷ [])) x
    greatest_above so_far less = record {
      there = Contains-push xs x;
      greatest = All-push (λ y. number y ≤ℤ number x) xs x
          (All-weaker (λ y. number y ≤ℤ number m) (λ y. number y ≤ℤ number x)
          (λ y le. omega (arith, ints)) xs so_far.greatest) (omega (arith, ints));
    }

    -- one more value, which isn't
    pub greatest_stays : IsGreatest number xs m → int_lt (number m) (number x) ≡ false
        → IsGreatest number (xs ++ (x ∷ [])) m
    greatest_stays so_far not_less = record {
      there = Contains-append_left xs (x ∷ []) m so_far.there;
      greatest = All-push (λ y. number y ≤ℤ number m) xs x so_far.greatest (omega (arith, ints));
    }

-- the state shows the values that a word selects, if the fold starts from the first of them
pub word_chooses : {T : Type 0} (shows : T → List T → Type 0) (keep : ℕ) (values : List T)
    (first next : T) → Chooses shows → 0 < keep → keep < 2 ^ length values → length values ≤ 64
    → first ≡ get_or values (trailing_zeros w64 keep) first
    → ((xs : List T) → shows first xs
    → shows next (xs ++ kept_by (digits keep 0 (length values)) values))
    → shows next (kept_by (digits keep 0 (length values)) values)
word_chooses shows keep values first next laws some clear few read add =
    let n : ℕ = length values in
    let at = λ (i : ℕ). get_or values i first in
    let rest = map at (ones n (bit_and keep (keep - 1))) in
    let kept : first ∷ rest ≡ kept_by (digits keep 0 n) values =
    ap (λ v. v ∷ rest) read ∙ ap (map at) (sym (ones_first n keep some clear few))
    ∙ map-ones first keep values in
    subst (shows next) kept (laws.twice first next rest
    (subst (λ l. shows next (first ∷ l)) (sym kept) (add (first ∷ []) (laws.one first))))

-- the state after a word that selects a value
pub word_from : {T : Type 0} (shows : T → List T → Type 0) (keep : ℕ) (values : List T)
    (state : Option T) (xs : List T) (first next : T) → Chooses shows → 0 < keep
    → keep < 2 ^ length values → length values ≤ 64
    → MatchOption state (first ≡ get_or values (trailing_zeros w64 keep) first)
    (λ found. first ≡ found)
    → ((ys : List T) → shows first ys
    → shows next (ys ++ kept_by (digits keep 0 (length values)) values))
    → MatchOption state (xs ≡ []) (λ found. shows found xs)
    → shows next (xs ++ kept_by (digits keep 0 (length values)) values)
word_from shows keep values (Some found) xs first next laws some clear few read add so_far =
    add xs (subst (λ v. shows v xs) (sym read) so_far)
word_from shows keep values None xs first next laws some clear few read add so_far =
    subst (λ l. shows next (l ++ kept_by (digits keep 0 (length values)) values)) (sym so_far)
    (word_chooses shows keep values first next laws some clear few read add)

-- these lemmas, for `search`
pub ruleset extremes = (least_below, least_stays, greatest_above, greatest_stays)
