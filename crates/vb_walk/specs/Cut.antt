-- Bits as words that start at whole bytes.
use Rattle.std.specs.Prelude.{◌≡◌, ◌≢◌, ℕ, ◌+◌, ◌*◌, Bool, false, List, [], ◌∷◌, ◌++◌, length}
use Rattle.std.specs.Prelude.{replicate, Option, None}
use Rattle.std.specs.Int.{div_ceil}
use Rattle.vb_bits.specs.Bits.{bits}
use Rattle.vb_walk.specs.Words.{bits_number, words, item_of}

-- s false values and then the values, as words; the last word is padded with false. No values have
-- no words
abbrev pub cut_words : ℕ → List Bool → List ℕ
cut_words s [] = []
cut_words s (b ∷ l) = words (replicate s false ++ b ∷ l) (div_ceil (s + length (b ∷ l)) 64)

-- the word of eight bytes
abbrev pub word_of : List ℕ → ℕ
word_of bytes = bits_number (bits bytes 0 64)

-- an `UnalignedBitChunk` in contracts: the number of digits before its bits in the first word and
-- after them in the last one, and its words in three parts
pub record UnalignedWords : Type 0 where
  pub lead_padding : ℕ
  pub trailing_padding : ℕ
  pub prefix : Option ℕ
  pub chunks : List ℕ
  pub suffix : Option ℕ

-- all words
abbrev pub all_words : UnalignedWords → List ℕ
all_words u = item_of u.prefix ++ u.chunks ++ item_of u.suffix

-- these words are the list l from bit s of their first byte on: the first word is the prefix, the
-- last of two or more is the suffix
pub record IsCut (s : ℕ) (l : List Bool) (u : UnalignedWords) : Type 0 where
  pub words : all_words u ≡ cut_words s l
  pub prefix : u.prefix ≡ None → (u.chunks ≡ []) × (u.suffix ≡ None)
  pub suffix : u.suffix ≡ None → u.chunks ≡ []
  pub lead : length l ≢ 0 → u.lead_padding ≡ s
  pub none : length l ≡ 0 → u.lead_padding ≡ 0
  pub trailing : u.lead_padding + length l + u.trailing_padding ≡ 64 * length (all_words u)
