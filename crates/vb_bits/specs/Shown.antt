-- The text that shows a list of truth values.
use Rattle.std.specs.Prelude.{ℕ, Bool, List, [], ◌∷◌, ◌++◌, codes, decimal, length, take}
use Rattle.std.specs.Prelude.{if◌then◌else◌}
use Rattle.std.specs.List.{flat_map}

-- a truth value as a word
abbrev pub truth_word : Bool → List ℕ
truth_word b = if b then codes "true" else codes "false"

-- truth values as words, separated by a comma and a space
abbrev pub truth_words : List Bool → List ℕ
truth_words [] = []
truth_words (b ∷ bs) = truth_word b ++ flat_map (λ c. codes ", " ++ truth_word c) bs

-- the number of truth values, and the first 16 of them
unfoldable pub bits_text : List Bool → List ℕ
bits_text l =
    codes "BitBuffer { len: " ++ decimal (length l)
    ++ codes ", buffer: [" ++ truth_words (take 16 l) ++ codes "] }"
