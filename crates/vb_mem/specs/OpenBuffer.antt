-- The value of a `BufferMut` in contracts.
use Rattle.std.specs.Prelude.{◌≡◌, ℕ, ◌+◌, ◌≤◌, max, unwrap_or, Option, List, ◌++◌, length}
use Rattle.std.specs.List.{refill}

-- a growing buffer: its items, the exponents of its reported and its declared alignment, and its
-- capacity in items
pub record OpenBuffer (T : Type 0) : Type 0 where
  pub list : List T
  pub alignment : ℕ
  pub declared : ℕ
  pub room : ℕ

-- a buffer has these items and reports the alignment `reported`, and its storage is declared with
-- the alignment `kept`
pub record Holds {T : Type 0} (items : List T) (reported kept : ℕ) (b : OpenBuffer T) : Type 0 where
  pub list : b.list ≡ items
  pub alignment : b.alignment ≡ reported
  pub declared : b.declared ≡ kept

-- the items were appended; both alignments are the same, and the capacity did not shrink
pub record Lengthens {T : Type 0} (added : List T) (old new : OpenBuffer T) : Type 0 where
  pub list : new.list ≡ old.list ++ added
  pub alignment : new.alignment ≡ old.alignment
  pub declared : new.declared ≡ old.declared
  pub room : old.room ≤ new.room

-- n more items fit without an allocation
abbrev pub HasRoom : {T : Type 0} → OpenBuffer T → ℕ → Type 0
HasRoom b n = length b.list + n ≤ b.room

-- the exponent of the declared alignment of new storage: the greater of the alignment that the call
-- requests and 256 bytes
abbrev pub over_aligned : ℕ → ℕ
over_aligned asked = max asked 8

-- the same with the alignment that the caller prefers in place of 256 bytes; the requested one if
-- it prefers none
abbrev pub preferred_over : ℕ → Option ℕ → ℕ
preferred_over asked preferred = max asked (unwrap_or preferred 0)

-- a buffer has these items in newly made storage, and reports the alignment that the call asked for
abbrev pub HoldsMade : {T : Type 0} → List T → ℕ → OpenBuffer T → Type 0
HoldsMade items asked = Holds items asked (over_aligned asked)

-- the buffer after other items overwrote its own
abbrev pub with_items : {T : Type 0} → OpenBuffer T → List T → OpenBuffer T
with_items b written = record b { list = refill (length b.list) b.list written }
