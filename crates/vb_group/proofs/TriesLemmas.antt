-- Rows that are added while their codes are tested.
use Rattle.std.proofs.Common.{◌≡◌, ◌≢◌, ℕ, ◌+◌, ◌<◌, ℤ, pos, Bool, true, false, ◌&&◌, cond, inl}
use Rattle.std.proofs.Common.{List, [], ◌∷◌, ◌++◌, length, map, get_or, refl, sym, ap, subst, ◌∙◌}
use Rattle.std.proofs.Common.{inr, take, arith}
use Rattle.std.specs.List.{All, fold, zip}
use Rattle.std.proofs.lemmas.List.{take_more}
use Rattle.std.specs.Ordering.{int_eq}
use Rattle.std.proofs.lemmas.Bool.{true≢false, and_parts, and_cases, and_from}
use Rattle.std.proofs.lemmas.Bool.Decides.{Decides-int_eq}
use Rattle.std.proofs.lemmas.List.Elements.{All-nil, All-cons, All-head, All-tail, All-append}
use Rattle.vb_group.specs.Groups.{IsGroup, AddsRows, TriesRows, values_of}
use Rattle.vb_group.proofs.AddsLemmas.{adds_nothing, adds_both, values_of-append}
use Rattle.vb_group.proofs.ZipLemmas.{length-zip, get_or-zip}

-- the first of two lists
all_left : {X : Type 0} (P : X → Type 0) (xs ys : List X) → All P (xs ++ ys) → All P xs
all_left P [] ys all = All-nil P
all_left P (x ∷ xs) ys all =
    All-cons P x xs (All-head P x (xs ++ ys) all) (all_left P xs ys (All-tail P x (xs ++ ys) all))

-- and the second one
all_right : {X : Type 0} (P : X → Type 0) (xs ys : List X) → All P (xs ++ ys) → All P ys
all_right P [] ys all = all
all_right P (x ∷ xs) ys all = all_right P xs ys (All-tail P x (xs ++ ys) all)

-- in either order
pub and_swap : (a b : Bool) → (a && b) ≡ (b && a)
and_swap true true = refl
and_swap true false = refl
and_swap false true = refl
and_swap false false = refl

module _ {C V T : Type 0} (number : C → ℤ) (plus : T → V → T) (is_total : T → Type 0)
    (skips : Bool) where
  -- no rows
  pub tries_nothing : (old : List T) → TriesRows number plus is_total skips old old [] true
  tries_nothing old = record {
    adds = adds_nothing number plus old;
    in_type = λ g d inside some. absurd (some refl);
    groups = λ good stops. All-nil (λ row. IsGroup (length old) (number row.0));
    past = λ bad. absurd (true≢false bad);
    passes = λ on. refl;
  }

  -- one row
  one_in_type : (old : List T) (code : C) (value : V) → ((g : ℕ) (d : T) → g < length old
      → number code ≡ pos g → is_total (get_or old g d)) → (g : ℕ) (d : T) → g < length old
      → (b : Bool) → int_eq (number code) (pos g) ≡ b
      → map (λ (row : C × V). row.1) (cond b ((code, value) ∷ []) []) ≢ []
      → is_total (get_or old g d)
  one_in_type old code value in_type g d inside true is some =
      in_type g d inside ((Decides-int_eq (number code) (pos g)).0 is)
  one_in_type old code value in_type g d inside false is some = absurd (some refl)

  pub tries_one : (old new : List T) (code : C) (value : V) (good : Bool)
      → AddsRows number plus old new ((code, value) ∷ [])
      → ((g : ℕ) (d : T) → g < length old → number code ≡ pos g → is_total (get_or old g d))
      → (good ≡ true → skips ≡ false → IsGroup (length old) (number code))
      → (good ≡ false → ¬ IsGroup (length old) (number code)) → (skips ≡ true → good ≡ true)
      → TriesRows number plus is_total skips old new ((code, value) ∷ []) good
  tries_one old new code value good added in_type group past passes =
      let is_one : C × V → Type 0 = λ row. IsGroup (length old) (number row.0) in
      record {
        adds = added;
        in_type = λ g d inside some.
            one_in_type old code value in_type g d inside (int_eq (number code) (pos g)) refl some;
        groups = λ on stops. All-cons is_one (code, value) [] (group on stops) (All-nil is_one);
        past = λ off all. past off (All-head is_one (code, value) [] all);
        passes = passes;
      }

  module _ (old mid new : List T) (xs ys : List (C × V)) (a b : Bool)
      (first : TriesRows number plus is_total skips old mid xs a)
      (last : TriesRows number plus is_total skips mid new ys b) where
    -- a total that the first rows leave, or change
    both_in_type : (g : ℕ) (d : T) → g < length old → (l : List V) → values_of number g xs ≡ l
        → values_of number g (xs ++ ys) ≢ [] → is_total (get_or old g d)
    both_in_type g d inside [] none some =
        let same : get_or mid g d ≡ get_or old g d =
        first.adds.each g d inside ∙ ap (fold plus (get_or old g d)) none in
        let others : values_of number g (xs ++ ys) ≡ values_of number g ys =
        values_of-append number g xs ys ∙ ap (λ l. l ++ values_of number g ys) none in
        subst is_total same (last.in_type g d (omega (arith, inside, first.adds.same_len))
        (λ empty. some (others ∙ empty)))
    both_in_type g d inside (v ∷ l) are some =
        first.in_type g d inside (λ none. absurd (omega (arith, ap length (sym are ∙ none))))

    -- some rows, and others after them
    pub tries_both : TriesRows number plus is_total skips old new (xs ++ ys) (a && b)
    tries_both =
        let is_one : C × V → Type 0 = λ row. IsGroup (length old) (number row.0) in
        record {
          adds = adds_both number plus old mid new xs ys first.adds last.adds;
          in_type = λ g d inside some.
              both_in_type g d inside (values_of number g xs) refl some;
          groups = λ good stops.
              let parts = and_parts a b good in
              All-append is_one xs ys (first.groups parts.0 stops)
              (subst (λ n. All (λ row. IsGroup n (number row.0)) ys) first.adds.same_len
              (last.groups parts.1 stops));
          past = λ bad all. elim (and_cases a b bad) [
            | inl off ↦ first.past off (all_left is_one xs ys all)
            | inr off ↦ last.past off
                (subst (λ n. All (λ row. IsGroup n (number row.0)) ys) (sym first.adds.same_len)
                (all_right is_one xs ys all))
          ];
          passes = λ on. and_from a b (first.passes on) (last.passes on);
        }

  -- one more row
  pub tries_row : (start state next : List T) (codes : List C) (values : List V) (row : ℕ)
      (code : C) (value : V) (a b : Bool) → length values ≡ length codes → row < length codes
      → code ≡ get_or codes row code → value ≡ get_or values row value
      → TriesRows number plus is_total skips start state (take row (zip codes values)) a
      → TriesRows number plus is_total skips state next ((code, value) ∷ []) b
      → TriesRows number plus is_total skips start next (take (row + 1) (zip codes values)) (a && b)
  tries_row start state next codes values row code value a b same inside is_code is_value so_far
      one =
      let rows = zip codes values in
      let long = length-zip codes values same in
      let read : get_or rows row (code, value) ≡ (code, value) =
      get_or-zip codes values row code value (code, value) inside same
      ∙ ap (λ x. (x, get_or values row value)) (sym is_code) ∙ ap (λ x. (code, x)) (sym is_value) in
      let both : take (row + 1) rows ≡ take row rows ++ ((code, value) ∷ []) =
      take_more rows row (code, value) (omega (arith, inside, long))
      ∙ ap (λ r. take row rows ++ (r ∷ [])) read in
      subst (λ l. TriesRows number plus is_total skips start next l (a && b)) (sym both)
      (tries_both start state next (take row rows) ((code, value) ∷ []) a b so_far one)
