-- The items of an iterator that `trusted_len` pairs with their number.
use Rattle.std.proofs.Common.{◌≡◌, ℕ, ◌+◌, ◌-◌, ◌<◌, inl, inr, false, List, [], ◌∷◌}
use Rattle.std.proofs.Common.{length, map, drop, Option, Some, get_or, slice_index_or}
use Rattle.std.proofs.Common.{refl, sym, ap, ◌∙◌, arith}
use Rattle.std.proofs.lemmas.Bool.{cases_eq}
use Rattle.std.proofs.lemmas.List.{length-map, length-drop, drop-map, ext_get_or}
use Rattle.std.proofs.lemmas.List.{nil_from_length}
use Rattle.std.proofs.lemmas.Option.{slice_get-get_or, slice_get-map, get_or_from_slice_get}
use Rattle.std.specs.Iterator.{Yields, Drains}
use Rattle.std.specs.Iterator.Runs.{Run, Trigger, YieldsRun, ItemsMapTo}
use Rattle.std.specs.List.{slice_get}
use Rattle.std.specs.Option.{option_map}
use Rattle.vb_core.specs.Lengths.{Counted, CountsDown}

module _ {S A : Type 0} (steps : S → Option A → S → Type 0) where
  -- one call of the adapter
  abbrev counted : Counted S → Option A → Counted S → Type 0
  counted s r t = CountsDown (steps s.iter r t.iter) s.left r t.left

  -- the inner iterator returned the same items
  yields_within : (s t : Counted S) (xs : List A) → Yields counted s xs t
      → Yields steps s.iter xs t.iter
  yields_within s t [] same = ap (λ c. c.iter) same
  yields_within s t (x ∷ xs) (j, first, rest) = (j.iter, first.1, yields_within j t xs rest)

  -- the number of remaining items fell by the number of items returned
  left_within : (s t : Counted S) (xs : List A) → Yields counted s xs t
      → length xs + t.left ≡ s.left
  left_within s t [] same =
      let kept : s.left ≡ t.left = ap (λ c. c.left) same in omega arith
  left_within s t (x ∷ xs) (j, first, rest) = omega (arith, first.0, left_within j t xs rest)

  -- the calls that returned these items, as a run
  run_of_yields : (s t : S) (xs : List A) → Yields steps s xs t → Run steps
  unfolding Trigger YieldsRun
  run_of_yields s t xs yields = record {
    from = s;
    items = xs;
    whole = false;
    len = length xs;
    at = slice_get xs;
    seen = tt;
    long = refl;
    reads = λ k d below. ap (option_map (λ x. x)) (slice_get-get_or xs k d below);
    gave = ((t, yields, λ h. cc), λ k. refl);
  }

  -- the calls that returned all items of the adapter are a run of the inner iterator; its length is
  -- the number of items that were left before
  pub counted_run : (s : Counted S) (xs : List A) → Drains counted s xs
      → (p : Run steps) × (p.from ≡ s.iter) × (p.items ≡ xs) × (p.len ≡ s.left) × Trigger p.len
  unfolding Trigger run_of_yields
  counted_run s xs (u, (t, yields, none)) =
      let all = left_within s t xs yields in
      let last : t.left ≡ 0 = none.0 in
      let within = yields_within s t xs yields in
      (run_of_yields s.iter t.iter xs within, refl, refl, omega arith, tt)

-- a run that returns the first items of a list, and has the length of the list, returns the whole
-- list
pub run_gives_all : {S A B : Type 0} {steps : S → Option A → S → Type 0} (p : Run steps)
    (v : A → B) (xs : List B) → ItemsMapTo p v xs → p.len ≡ length xs → map v p.items ≡ xs
unfolding YieldsRun
run_gives_all {A = A} {B = B} p v xs front all = each xs all front.2
  where
    each : (ys : List B) → p.len ≡ length ys
        → ((k : ℕ) (d : B) → k < p.len → option_map v (p.at k) ≡ Some (slice_index_or ys k d))
        → map v p.items ≡ ys
    each [] none reads =
        nil_from_length (map v p.items) (length-map p.items v ∙ sym p.long ∙ none)
    each (y ∷ ys) some reads =
        let long = length-map p.items v in
        ext_get_or y (map v p.items) (y ∷ ys) (long ∙ sym p.long ∙ some)
        (λ k below.
        get_or_from_slice_get (map v p.items) k (get_or (y ∷ ys) k y) y
        (slice_get-map v p.items k
        ∙ ap (option_map v) (sym (p.gave.1 k))
        ∙ reads k y (omega (arith, below, long, p.long))))

-- the same after the first n items, or after all items if there are fewer
pub run_gives_rest : {S A B : Type 0} {steps : S → Option A → S → Type 0} (p : Run steps)
    (v : A → B) (xs : List B) (n : ℕ) → ItemsMapTo p v xs → p.len - n ≡ length xs - n
    → map v (drop n p.items) ≡ drop n xs
run_gives_rest p v xs n front left =
    elim (cases_eq (length xs - n) 0) [
      | inl none ↦
          nil_from_length (map v (drop n p.items))
          (length-map (drop n p.items) v ∙ length-drop n p.items
          ∙ ap (λ k. k - n) (sym p.long) ∙ left ∙ none)
          ∙ sym (nil_from_length (drop n xs) (length-drop n xs ∙ none))
      | inr some ↦
          sym (drop-map v n p.items)
          ∙ ap (drop n) (run_gives_all p v xs front (omega (arith, left, some)))
    ]
