-- One call of an iterator whose number of items is known.
use Rattle.std.proofs.Common.{◌≡◌, ℕ, ◌-◌, true, List, [], ◌∷◌, length, Option, Some, None, refl}
use Rattle.std.proofs.Common.{ap, subst, arith}
use Rattle.std.proofs.lemmas.Option.{slice_get-get_or}
use Rattle.std.specs.Iterator.{Yields, Drains}
use Rattle.std.specs.Iterator.Runs.{Run, Trigger, YieldsRun}
use Rattle.std.specs.List.{slice_get}
use Rattle.std.specs.Option.{option_map}
use Rattle.vb_core.specs.Lengths.{IsLength}

module _ {S A : Type 0} (steps : S → Option A → S → Type 0) where
  -- the run of the calls from s that gave xs and then `None`
  run_of : (s : S) (xs : List A) → Drains steps s xs → Run steps
  unfolding Trigger YieldsRun
  run_of s xs (u, (t, yields, none)) = record {
    from = s;
    items = xs;
    whole = true;
    len = length xs;
    at = slice_get xs;
    seen = tt;
    long = refl;
    reads = λ k d below. ap (option_map (λ x. x)) (slice_get-get_or xs k d below);
    gave = ((t, yields, λ _. (u, none)), λ k. refl);
  }

  -- if the length is known to be n, exactly n items come before `None`
  IsLength-Drains : (s : S) (n : ℕ)
      → IsLength steps s n → (xs : List A) → Drains steps s xs → length xs ≡ n
  unfolding Trigger run_of
  IsLength-Drains s n known xs drains = known (run_of s xs drains) tt refl refl

  -- after an item, one less remains
  pub IsLength-some : (s : S) (item : A) (t : S) (n : ℕ)
      → IsLength steps s n → steps s (Some item) t → IsLength steps t (n - 1)
  unfolding YieldsRun
  IsLength-some s item t n known step run _ from whole =
      let last = run.gave.0.2 whole in
      let rest : Yields steps t run.items run.gave.0.0 =
      subst (λ (j : S). Yields steps j run.items run.gave.0.0) from run.gave.0.1 in
      let all : length (item ∷ run.items) ≡ n =
      IsLength-Drains s n known (item ∷ run.items) (
        last.0,
        (run.gave.0.0, (t, step, rest), last.1),
      ) in
      let long = run.long in
      omega arith

  -- `None` comes only if no item was left
  pub IsLength-none : (s t : S) (n : ℕ) → IsLength steps s n → steps s None t → 0 ≡ n
  IsLength-none s t n known step = IsLength-Drains s n known [] (t, (s, refl, step))
