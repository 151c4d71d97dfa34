-- The effect of an iterator's items on a list.
use Rattle.std.specs.Prelude.{◌≡◌, ℕ, ◌+◌, ◌-◌, pos, ◌+ℤ◌, true, Option, MatchOption, Result}
use Rattle.std.specs.Prelude.{Ok, Err, List, ◌∷◌, ◌++◌, [], map}
use Rattle.std.specs.Int.{int_gap}
use Rattle.std.specs.Iterator.{Count, Drains, Yields, YieldsThen, IsNearerEnd}
use Rattle.std.specs.Iterator.Runs.{WholeRun, EveryRun}
use Rattle.std.specs.Range.{range_steps}
use Rattle.vb_core.specs.declared.error.ExtendError.{ExtendError}
use Rattle.vb_core.specs.declared.error.ExtendError.TheVariants.{Memory, Item}

-- each complete run over a range returns one item for each number between its ends
abbrev pub RangesGiveAll : Type 0
RangesGiveAll =
    EveryRun (range_steps (λ (x y : ℕ). y - x) (λ x y. y ≡ x + 1))
    (λ run. run.whole ≡ true → run.len ≡ run.from.end - run.from.start)
    × EveryRun (range_steps int_gap (λ x y. y ≡ x +ℤ pos 1))
    (λ run. run.whole ≡ true → run.len ≡ int_gap run.from.start run.from.end)

module _ {U S A : Type 0} (becomes : U → S → Type 0) (steps : S → Option A → S → Type 0) where
  -- an iterator made from `source` came to its end, and P holds of the items that it returned
  abbrev pub OfItems : U → (List A → Type 0) → Type 0
  OfItems source P = (s : S) × (items : List A) × becomes source s × Drains steps s items × P items

  -- an iterator made from `source` came to its end, and P holds of the number of its items. This is
  -- the only definition that states how many items a range returns
  abbrev pub OfRun : U → (ℕ → Type 0) → Type 0
  OfRun source P =
      (s : S) × becomes source s × WholeRun steps s (λ run. P run.len) × RangesGiveAll

module _ {S A : Type 0} (can : S → Type 0) (left : S → Count)
    (steps : S → Option A → S → Type 0) where
  -- calls from s returned the items and then r, and led to state t. If r is an item, `next` may be
  -- called in t, and the iterator ends from there
  abbrev pub GivesThen : S → List A → Option A → S → Type 0
  GivesThen s items r t = YieldsThen steps s items r t
      × MatchOption r (Unit {0}) (λ _. IsNearerEnd can left s t)

module _ {S A E : Type 0} (steps : S → Option (Result A E) → S → Type 0) where
  -- calls from s returned only values, and came to an end
  abbrev pub GivesValues : S → (List A → Type 0) → Type 0
  GivesValues s P = (items : List A) × Drains steps s (map Ok items) × P items

  -- calls from s returned values and then the error e
  abbrev pub GivesError : S → E → (List A → Type 0) → Type 0
  GivesError s e P = (items : List A) × (t : S)
      × Yields steps s (map Ok items ++ Err e ∷ []) t × P items

-- if an item was an error, P holds of it
abbrev pub IfItem : {B E : Type 0} → Result B (ExtendError E) → (E → Type 0) → Type 0
IfItem (Ok _) P = Unit {0}
IfItem (Err Memory) P = Unit {0}
IfItem (Err (Item e)) P = P e

-- if an allocation failed, P holds
abbrev pub OnMemory : {B E : Type 0} → Result B (ExtendError E) → Type 0 → Type 0
OnMemory (Ok _) P = Unit {0}
OnMemory (Err Memory) P = P
OnMemory (Err (Item e)) P = Unit {0}
