-- The items of iterators as bits.
use Rattle.std.specs.Prelude.{◌≡◌, ℕ, ◌+◌, ◌^◌, ◌<◌, ◌≤◌, Option, List, length}
use Rattle.std.specs.Iterator.{Count, Drains, IsNearerEnd, Yields}

-- an iterator made from `source` returned more than `usize::MAX` items
module _ {U S A : Type 0} (becomes : U → S → Type 0) (steps : S → Option A → S → Type 0) where
  abbrev pub GivesPast : U → Type 0
  GivesPast source =
      (s : S) × (items : List A) × (t : S) × becomes source s × Yields steps s items t
      × (length items ≡ 2 ^ 64)

  -- an iterator made from `source` returned so many items that, with the n bits before them, there
  -- are more than `usize::MAX` bits
  abbrev pub GivesPastBehind : ℕ → U → Type 0
  GivesPastBehind n source =
      (s : S) × (items : List A) × (t : S) × becomes source s × Yields steps s items t
      × (2 ^ 64 ≤ n + length items)

-- calls from s returned fewer than n items and then `None`; or they returned n items and led to
-- state t, in which `next` may be called and from which the iterator ends
module _ {S A : Type 0} (can : S → Type 0) (left : S → Count)
    (steps : S → Option A → S → Type 0) where
  abbrev pub GivesUpTo : ℕ → S → List A → S → Type 0
  GivesUpTo n s items t =
      (length items < n → Drains steps s items)
      × (length items ≡ n → Yields steps s items t × IsNearerEnd can left s t)
