-- Items written after others.
use Rattle.std.specs.Prelude.{◌≡◌, ℕ, ◌+◌, List, ◌++◌, length, take, drop}

-- the new list has the items after its first n; the others are those of the old list
pub record PutsAt {T : Type 0} (n : ℕ) (items old new : List T) : Type 0 where
  pub front : take (n + length items) new ≡ take n old ++ items
  pub behind : drop (n + length items) new ≡ drop (n + length items) old
