-- Lists written into the caller's memory.
use Rattle.std.specs.Prelude.{◌≡◌, ℕ, List, ◌++◌, length, min, take, drop}

-- the first n values of `all`, as many as fit, replace the first n of the old list; the others are
-- unchanged
pub record Fills {T : Type 0} (all old new : List T) (n : ℕ) : Type 0 where
  pub count : n ≡ min (length all) (length old)
  pub items : new ≡ take n all ++ drop n old
