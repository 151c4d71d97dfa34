-- Lists of numbers with commas between them.
use Rattle.std.specs.Prelude.{ℕ, ℤ, pos, neg_ℤ, ◌-◌, ◌^◌, Bool, List, [], ◌∷◌, codes, drop}
use Rattle.std.specs.Prelude.{slice_index, Option, Some, None, nat_le, ◌==◌, if◌then◌else◌}
use Rattle.std.specs.List.{slice_split}
use Rattle.std.specs.Option.{option_map}
use Rattle.std.specs.Str.{bytes_eq}
use Rattle.vb_command.specs.Optional.{◌>>=◌}
use Rattle.vb_command.specs.Words.{number}

-- the number that a word writes, if it writes one that is at most `most`
abbrev pub number_to : ℕ → List ℕ → Option ℕ
number_to most w = do
  n ← number w
  if nat_le n most then Some n else None

-- the index that a word writes, if it writes one: a number, or a number after `-` (code 45), which
-- is then negative. It must fit in 64 bits with a sign
abbrev pub index : List ℕ → Option ℤ
index w =
    if slice_index w 0 == 45
    then option_map (λ n. neg_ℤ (pos n)) (number_to (2 ^ 63) (drop 1 w))
    else option_map pos (number_to (2 ^ 63 - 1) w)

-- whether a byte is a comma (code 44)
abbrev pub is_comma : ℕ → Bool
is_comma b = b == 44

-- the parts of a word between commas; `-` has none
abbrev pub parts : List ℕ → List (List ℕ)
parts w = if bytes_eq w (codes "-") then [] else slice_split is_comma w

-- the items that the parts write, if each writes one
abbrev pub all_written : {X : Type 0} → (List ℕ → Option X) → List (List ℕ) → Option (List X)
all_written f [] = Some []
all_written f (part ∷ more) = do
  x ← f part
  xs ← all_written f more
  Some (x ∷ xs)

-- the list that a word writes, with commas between the items, or `-` for none
abbrev pub items_of : {X : Type 0} → (List ℕ → Option X) → List ℕ → Option (List X)
items_of f w = all_written f (parts w)
