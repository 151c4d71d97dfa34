-- Edits of lists.
use Rattle.std.specs.Prelude.{ℕ, ◌+◌, ◌-◌, List, ◌++◌, length, take, drop, replicate}

-- the list l with its items from index a on replaced by those of m
abbrev pub with_part : {T : Type 0} → List T → ℕ → List T → List T
with_part l a m = take a l ++ m ++ drop (a + length m) l

-- the list l with v from index a up to b, b excluded
abbrev pub with_fill : {T : Type 0} → List T → ℕ → ℕ → T → List T
with_fill l a b v = with_part l a (replicate (b - a) v)
