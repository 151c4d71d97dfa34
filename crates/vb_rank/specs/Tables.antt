-- Tables of the counts before each block of 512 bits, and the reads of their entries.
use Rattle.std.specs.Prelude.{◌≡◌, ℕ, ◌+◌, ◌-◌, ◌*◌, ◌<◌, ◌≤◌, Bool, true, false}
use Rattle.std.specs.Prelude.{◌/◌, ◌%◌, List, length, map, take, slice_index, slice_range}
use Rattle.std.specs.Int.{div_ceil}
use Rattle.std.specs.Int.Digits.{digits_of}
use Rattle.std.specs.List.{range_with_len}
use Rattle.vb_bits.specs.Bits.{count}
use Rattle.vb_rank.specs.declared.size.TheConstants.{BLOCK_BITS}

-- entries, and the number of probes that they have had
pub record CountedEntries : Type 0 where
  pub entries : List ℕ
  pub probes : ℕ

-- the entries are unchanged, and had exactly n more probes
pub record ProbesExactly (n : ℕ) (before after : CountedEntries) : Type 0 where
  pub same : after.entries ≡ before.entries
  pub probes : after.probes ≡ before.probes + n

-- the entries are unchanged, and had at most n more probes
pub record ProbesAtMost (n : ℕ) (before after : CountedEntries) : Type 0 where
  pub same : after.entries ≡ before.entries
  pub probes : after.probes ≤ before.probes + n

-- the number of blocks of 512 bits that n bits have, the last one perhaps in part
abbrev pub blocks : ℕ → ℕ
blocks n = div_ceil n BLOCK_BITS

-- for each block, the number of true values before it
unfoldable pub block_counts : List Bool → List ℕ
block_counts l = map (λ j. count (take (BLOCK_BITS * j) l)) (range_with_len 0 (blocks (length l)))

-- the entries are the counts before the blocks of the list
abbrev pub IsTableOf : CountedEntries → List Bool → Type 0
IsTableOf t l = t.entries ≡ block_counts l

-- the number of binary digits of a number; 0 has none
abbrev pub binary_digits : ℕ → ℕ
binary_digits n = length (digits_of 2 n)

-- the number of values that are v before part j, from a table of parts of w values
abbrev pub count_before : ℕ → Bool → List ℕ → ℕ → ℕ
count_before w true t j = slice_index t j
count_before w false t j = w * j - slice_index t j

-- no entry is greater than the number of values before its part, and no part has more values that
-- are v before it than a later one
pub record Rises (w : ℕ) (v : Bool) (t : List ℕ) : Type 0 where
  pub small : (j : ℕ) → j < length t → slice_index t j ≤ w * j
  pub rising : (i j : ℕ) → i ≤ j → j < length t → count_before w v t i ≤ count_before w v t j

-- m values that are v are before part j; m is at most n, and there are more than n before the next
-- part
pub record BeginsBefore (w : ℕ) (v : Bool) (t : List ℕ) (n j m : ℕ) : Type 0 where
  pub within : j < length t
  pub before : m ≡ count_before w v t j
  pub low : m ≤ n
  pub high : j + 1 < length t → n < count_before w v t (j + 1)

-- a search for the n-th value that is v has k parts left, from part j on: if the table rises, m of
-- these values are before part j, and more than n before the part after the k parts
pub record Narrows (w : ℕ) (v : Bool) (t : List ℕ) (n j m k : ℕ) : Type 0 where
  pub some : 0 < k
  pub within : j + k ≤ length t
  pub low : m ≤ n
  pub before : Rises w v t → m ≡ count_before w v t j
  pub above : Rises w v t → j + k < length t → n < count_before w v t (j + k)

-- the chunk is the 64 bytes from the byte of bit o on, if that bit is the first of its byte and 64
-- bytes begin there
abbrev pub IsChunkFrom : List ℕ → ℕ → List ℕ → Type 0
IsChunkFrom b o chunk = o % 8 ≡ 0 → o / 8 + 64 ≤ length b
    → chunk ≡ slice_range b (o / 8) (o / 8 + 64)
