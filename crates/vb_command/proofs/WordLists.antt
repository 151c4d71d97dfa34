-- The words of a text, from its parts between spaces.
use Rattle.std.proofs.Common.{◌≡◌, ℕ, ◌<◌, cond, List, [], ◌∷◌, length, refl, ap, ◌∙◌, lt-ltb}
use Rattle.std.proofs.Common.{arith}
use Rattle.std.specs.Prelude.{filter}
use Rattle.std.specs.List.{slice_split, position_or_len, before_first, after_first}
use Rattle.std.proofs.lemmas.List.Splits.{slice_split_first, slice_split_none}
use Rattle.std.proofs.lemmas.List.Sums.{fails_before_first}
use Rattle.vb_command.specs.Words.{is_space, is_word, line_words}

-- a part that is not empty is a word
filter-word : (w : List ℕ) (parts : List (List ℕ)) → 0 < length w
    → filter is_word (w ∷ parts) ≡ w ∷ filter is_word parts
filter-word w parts some =
    ap (λ b. cond b (w ∷ filter is_word parts) (filter is_word parts)) (lt-ltb 0 (length w) some)

-- an empty part is not a word
filter-empty : (w : List ℕ) (parts : List (List ℕ)) → length w ≡ 0
    → filter is_word (w ∷ parts) ≡ filter is_word parts
filter-empty [] parts none = refl
filter-empty (b ∷ w) parts none = absurd (omega arith)

-- the part before the first space is the first word
pub line_words-word : (text : List ℕ) → position_or_len is_space text < length text
    → 0 < length (before_first is_space text)
    → line_words text ≡ before_first is_space text ∷ line_words (after_first is_space text)
line_words-word text space some =
    ap (filter is_word) (slice_split_first is_space text 0 space)
    ∙ filter-word (before_first is_space text)
    (slice_split is_space (after_first is_space text)) some

-- a space at the start does not change the words
pub line_words-space : (text : List ℕ) → position_or_len is_space text < length text
    → length (before_first is_space text) ≡ 0
    → line_words text ≡ line_words (after_first is_space text)
line_words-space text space none =
    ap (filter is_word) (slice_split_first is_space text 0 space)
    ∙ filter-empty (before_first is_space text)
    (slice_split is_space (after_first is_space text)) none

-- a text without a space is one word
pub line_words-last : (text : List ℕ) → position_or_len is_space text ≡ length text
    → 0 < length text → line_words text ≡ text ∷ []
line_words-last text last some =
    ap (filter is_word) (slice_split_none is_space text
    (λ k d lt. fails_before_first is_space text k d (omega arith)))
    ∙ filter-word text [] some

-- the words of a text, by its first part
pub ruleset parts = (line_words-word, line_words-space, line_words-last)
