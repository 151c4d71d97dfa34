-- Looks at a source of bytes. A look is one read of a chunk of 64 bytes, of a word of eight, or of
-- a byte.
use Rattle.std.specs.Prelude.{◌≡◌, ◌⊎◌, ℕ, List, ◌+◌, ◌-◌, ◌/◌, ◌%◌, ◌<◌, ◌≤◌, min}
use Rattle.std.specs.Prelude.{Bool, IsTrue}
use Rattle.vb_bits.specs.Bits.{at}

-- bytes, and the number of looks at them
pub record CountedBytes : Type 0 where
  pub bytes : List ℕ
  pub looks : ℕ

-- the bytes are unchanged, with exactly n more looks
pub record LooksExactly (n : ℕ) (before after : CountedBytes) : Type 0 where
  pub same : after.bytes ≡ before.bytes
  pub looks : after.looks ≡ before.looks + n

-- the bytes are unchanged, with at most n more looks
pub record LooksAtMost (n : ℕ) (before after : CountedBytes) : Type 0 where
  pub same : after.bytes ≡ before.bytes
  pub looks : after.looks ≤ before.looks + n

-- the looks of a count of n bits from bit o on: h bits up to the next whole byte, m whole bytes by
-- chunks, words and bytes, and t bits after them
abbrev pub looks : ℕ → ℕ → ℕ
looks o n =
    let h = min n ((8 - o % 8) % 8) in
    let m = (n - h) / 8 in
    let t = (n - h) % 8 in
    min h 1 + m / 64 + m % 64 / 8 + m % 8 + min t 1

-- the number of bits of a word
abbrev pub word_bits : ℕ
word_bits = 64

-- the number of bits of a chunk
abbrev pub chunk_bits : ℕ
chunk_bits = 512

-- the looks of n bits from a whole byte on without chunks: words, bytes and a part of a byte
abbrev pub rest_looks : ℕ → ℕ
rest_looks n = n / word_bits + n % word_bits / 8 + min (n % 8) 1

-- n bits from bit a on that one look reads: those of a chunk or of a word, or at most eight of one
-- byte
pub record IsLook (a n : ℕ) : Type 0 where
  pub some : 0 < n
  pub unit : 8 < n → (n ≡ word_bits) ⊎ (n ≡ chunk_bits)
  pub whole : 8 < n → a % 8 ≡ 0
  pub in_byte : n ≤ 8 → a % 8 + n ≤ 8

-- one look from a byte boundary on reads n of the m bits there: a chunk, a word or a byte, or all
-- of them if they are fewer
pub record IsWholeLook (m n : ℕ) : Type 0 where
  pub chunk : chunk_bits ≤ m → n ≡ chunk_bits
  pub word : m < chunk_bits → word_bits ≤ m → n ≡ word_bits
  pub byte : m < word_bits → n ≡ min m 8

-- a search of the values l from index a on; l starts at bit o. If it finds a true value, it makes
-- at most the looks of a count of the bits from index a up to that value, included
abbrev pub StopsAtNext : List Bool → ℕ → ℕ → CountedBytes → CountedBytes → Type 0
StopsAtNext l o a before after =
    (p : ℕ) → a ≤ p → IsTrue (at l p) → LooksAtMost (looks (o + a) (p + 1 - a)) before after

-- a search of these values from index e, excluded, to the front. If it finds a true value, it makes
-- at most the looks of a count of the bits from that value, included, up to index e
abbrev pub StopsAtPrevious : List Bool → ℕ → ℕ → CountedBytes → CountedBytes → Type 0
StopsAtPrevious l o e before after =
    (p : ℕ) → p < e → IsTrue (at l p) → LooksAtMost (looks (o + p) (e - p)) before after
