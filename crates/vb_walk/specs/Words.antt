-- Lists of truth values as words of 64 digits.
use Rattle.std.specs.Prelude.{ℕ, ◌+◌, ◌*◌, ◌/◌, Bool, cond, List, [], ◌∷◌, length, map, take, drop}
use Rattle.std.specs.Prelude.{Option, Some, None}
use Rattle.std.specs.List.{range_with_len}

-- the number whose digits are the values, lowest first
abbrev pub bits_number : List Bool → ℕ
bits_number [] = 0
bits_number (b ∷ l) = cond b 1 0 + 2 * bits_number l

-- word k: the number of the values from index 64 * k on, at most 64 of them
abbrev pub word : List Bool → ℕ → ℕ
word l k = bits_number (take 64 (drop (64 * k) l))

-- the first n words
unfoldable pub words : List Bool → ℕ → List ℕ
words l n = map (word l) (range_with_len 0 n)

-- the full words
abbrev pub full_words : List Bool → List ℕ
full_words l = words l (length l / 64)

-- the full words, and then always one more word, of the values after them
abbrev pub padded_words : List Bool → List ℕ
padded_words l = words l (length l / 64 + 1)

-- the item, if there is one
abbrev pub item_of : Option ℕ → List ℕ
item_of None = []
item_of (Some w) = w ∷ []
