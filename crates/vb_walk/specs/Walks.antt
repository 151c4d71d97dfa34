-- Walks over a window by words: the current word, the whole words after it, and fewer than 64 bits
-- after these.
use Rattle.std.specs.Prelude.{◌≡◌, ◌≢◌, ◌⊎◌, ℕ, ◌+◌, ◌-◌, ◌*◌, ◌%◌, ◌^◌, ◌<◌, ◌≤◌, Bool, true}
use Rattle.std.specs.Prelude.{false, cond, nat_lt, List, length, filter, map, Option, Some, None}
use Rattle.std.specs.Int.{bit_not, w64}
use Rattle.std.specs.List.{range_with_len}
use Rattle.vb_bits.specs.Bits.{bit_of}
use Rattle.vb_bits.specs.Digits.{has_bit}
use Rattle.vb_walk.specs.declared.cursor.Cursor.{Cursor}
use Rattle.vb_bits.specs.Runs.{runs, shift_run}
use Rattle.vb_walk.specs.declared.other_word.OtherWord.{OtherWord}
use Rattle.vb_walk.specs.declared.slices.TakenRun.{TakenRun}

-- ---- words with a digit that isn't v
-- the digits that aren't v
abbrev pub others : Bool → ℕ → ℕ
others v word = cond v (bit_not w64 word) word

-- bits `a..b` are all v
abbrev pub AreAll : List ℕ → Bool → ℕ → ℕ → Type 0
AreAll bytes v a b = (i : ℕ) → a ≤ i → i < b → bit_of bytes i ≡ v

-- o is the first of the whole words from byte `at` up to byte `end` with a digit that isn't v
pub record IsOther (bytes : List ℕ) (at end : ℕ) (v : Bool) (o : OtherWord) : Type 0 where
  pub from : at + 8 ≤ o.behind
  pub within : o.behind ≤ end
  pub whole : (end - o.behind) % 8 ≡ 0
  pub passed : AreAll bytes v (8 * at) (8 * (o.behind - 8))
  pub read : (i : ℕ) → i < 64 → has_bit o.word i ≡ bit_of bytes (8 * (o.behind - 8) + i)
  pub fits : o.word < 2 ^ 64
  pub other : others v o.word ≢ 0

-- that word, or None if there is none
abbrev pub FindsOther : List ℕ → ℕ → ℕ → Bool → Option OtherWord → Type 0
FindsOther bytes at end v None = AreAll bytes v (8 * at) (8 * end)
FindsOther bytes at end v (Some o) = IsOther bytes at end v o

-- ---- the position of a walk
-- the number of bits after the current word
abbrev pub bits_ahead : Cursor → ℕ
bits_ahead c = 8 * (c.end - c.byte) + c.left

-- the index after the window
abbrev pub stop : Cursor → ℕ
stop c = c.next + bits_ahead c

-- the numbers of a walk are consistent: the current word has the indices `base..next`, and the bits
-- ahead start at byte `byte`
pub record IsCursor (bytes : List ℕ) (c : Cursor) : Type 0 where
  pub room : c.offset + stop c ≤ 8 * length bytes
  pub fits : c.offset + stop c < 2 ^ 64
  pub walked : c.base ≤ c.next
  pub near : c.next ≤ c.base + 64
  pub clear : c.word < 2 ^ (c.next - c.base)
  pub order : c.byte ≤ c.end
  pub inside : c.end ≤ length bytes
  pub whole : (c.end - c.byte) % 8 ≡ 0
  pub short : c.left < 64
  pub here : 0 < bits_ahead c → 8 * c.byte ≡ c.offset + c.next

-- the bit that remains at index i: below `next` a digit of the current word, and from `next` on the
-- bit of the window
abbrev pub pending_bit : List ℕ → Cursor → ℕ → Bool
pending_bit bytes c i =
    cond (nat_lt i c.next) (has_bit c.word (i - c.base)) (bit_of bytes (c.offset + i))

-- c with one of the words ahead as its current word
abbrev pub at_word : Cursor → OtherWord → Cursor
at_word c o = record c {
  base = 8 * o.behind - c.offset - 64;
  next = 8 * o.behind - c.offset;
  byte = o.behind;
  word = o.word;
}

-- d is c with the bits after the whole words as its current word
pub record IsAtRest (bytes : List ℕ) (c d : Cursor) : Type 0 where
  pub valid : IsCursor bytes d
  pub offset : d.offset ≡ c.offset
  pub ends : stop d ≡ stop c
  pub base : d.offset + d.base ≡ 8 * c.end
  pub read : (i : ℕ) → d.base ≤ i → i < d.next
      → has_bit d.word (i - d.base) ≡ bit_of bytes (c.offset + i)
  pub last : bits_ahead d ≡ 0
  pub short : d.next < d.base + 64

-- d is c with another current word: the next one with a digit that isn't v, or else the bits after
-- the whole words
pub record IsRefilled (bytes : List ℕ) (c : Cursor) (v : Bool) (d : Cursor) : Type 0 where
  pub valid : IsCursor bytes d
  pub offset : d.offset ≡ c.offset
  pub ends : stop d ≡ stop c
  pub later : c.next ≤ d.base
  pub passed : (i : ℕ) → c.next ≤ i → i < d.base → bit_of bytes (c.offset + i) ≡ v
  pub read : (i : ℕ) → d.base ≤ i → i < d.next
      → has_bit d.word (i - d.base) ≡ bit_of bytes (c.offset + i)
  pub other : ((others v d.word ≢ 0) × (d.next ≡ d.base + 64))
      ⊎ ((bits_ahead d ≡ 0) × (d.next < d.base + 64))

-- d is c with a current word that isn't 0, if any is left: it passes only zeros, and the bits from
-- there on are the same
pub record IsSkipped (bytes : List ℕ) (c d : Cursor) : Type 0 where
  pub valid : IsCursor bytes d
  pub ends : stop d ≡ stop c
  pub later : c.base ≤ d.base
  pub passed : (i : ℕ) → c.base ≤ i → i < d.base → pending_bit bytes c i ≡ false
  pub same : (i : ℕ) → d.base ≤ i → i < stop d → pending_bit bytes d i ≡ pending_bit bytes c i
  pub last : d.word ≡ 0 → bits_ahead d ≡ 0

-- ---- indices
-- the numbers in `a..a + n` at which t is true, in ascending order
unfoldable pub places_in : (ℕ → Bool) → ℕ → ℕ → List ℕ
places_in t a n = filter t (range_with_len a n)

-- the remaining indices
abbrev pub places_left : List ℕ → Cursor → List ℕ
places_left bytes c = places_in (pending_bit bytes c) c.base (stop c - c.base)

-- ---- runs
-- the runs of t among the n indices from a on
unfoldable pub runs_in : (ℕ → Bool) → ℕ → ℕ → List (ℕ × ℕ)
runs_in t a n = map (shift_run a) (runs (map t (range_with_len a n)))

-- the remaining runs
abbrev pub runs_left : List ℕ → Cursor → List (ℕ × ℕ)
runs_left bytes c = runs_in (pending_bit bytes c) c.base (stop c - c.base)

-- r is the first remaining run, and r.cursor is c without it
pub record TakesRun (bytes : List ℕ) (c : Cursor) (r : TakenRun) : Type 0 where
  pub valid : IsCursor bytes r.cursor
  pub ends : stop r.cursor ≡ stop c
  pub from : c.base ≤ r.start
  pub some : r.start < r.end
  pub within : r.end ≤ stop c
  pub later : r.cursor.base ≤ r.end
  pub off : (i : ℕ) → c.base ≤ i → i < r.start → pending_bit bytes c i ≡ false
  pub on : (i : ℕ) → r.start ≤ i → i < r.end → pending_bit bytes c i ≡ true
  pub over : (r.end ≡ stop c) ⊎ (pending_bit bytes c r.end ≡ false)
  pub gone : (i : ℕ) → r.cursor.base ≤ i → i < r.end → pending_bit bytes r.cursor i ≡ false
  pub same : (i : ℕ) → r.end ≤ i → i < stop c → pending_bit bytes r.cursor i ≡ pending_bit bytes c i
