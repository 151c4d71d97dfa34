-- The value of a `Buffer` in contracts.
use Rattle.std.specs.Prelude.{◌≡◌, ℕ, ◌+◌, ◌*◌, ◌%◌, ◌^◌, ◌<◌, ◌≤◌, ◌⊎◌}
use Rattle.std.specs.Prelude.{List, [], length, slice_range}
use Rattle.std.specs.declared.ops.Range.{Range}
use Rattle.vb_core.specs.ByteForm.{IsReadFrom}
use Rattle.vb_mem.specs.OpenBuffer.{OpenBuffer, over_aligned}

-- a buffer that may be shared: its items, the exponents of its reported and its declared alignment,
-- and the byte offset of its first item in the storage
pub record SharedBuffer (T : Type 0) : Type 0 where
  pub list : List T
  pub alignment : ℕ
  pub declared : ℕ
  pub place : ℕ

-- a buffer has these items and reports the alignment `reported`. Unless it is empty, its first item
-- is at byte `at` of a storage that is declared with the alignment `kept`
pub record Shows {T : Type 0} (items : List T) (reported at kept : ℕ)
    (b : SharedBuffer T) : Type 0 where
  pub list : b.list ≡ items
  pub alignment : b.alignment ≡ reported
  pub place : 0 < length items → b.place ≡ at
  pub declared : 0 < length items → b.declared ≡ kept

-- a buffer has these items in newly made storage, and reports the alignment that the call asked for
abbrev pub ShowsMade : {T : Type 0} → List T → ℕ → SharedBuffer T → Type 0
ShowsMade items asked = Shows items asked 0 (over_aligned asked)

-- a buffer shows the items of a range of another buffer, `size` bytes each, and reports the
-- alignment `reported`
abbrev pub ShowsPart : {T : Type 0} → ℕ → SharedBuffer T → Range ℕ → ℕ → SharedBuffer T → Type 0
ShowsPart size whole range reported =
    Shows (slice_range whole.list range.start range.end) reported (whole.place + range.start * size)
    whole.declared

-- the byte offset is a multiple of the alignment, and the storage is declared with that alignment
-- or a greater one
abbrev pub IsPlaceAligned : ℕ → ℕ → ℕ → Type 0
IsPlaceAligned place declared alignment = (place % 2 ^ alignment ≡ 0) × (alignment ≤ declared)

-- the buffer is empty, or its first item has the alignment
abbrev pub IsAlignedTo : {T : Type 0} → SharedBuffer T → ℕ → Type 0
IsAlignedTo b alignment = (b.list ≡ []) ⊎ IsPlaceAligned b.place b.declared alignment

-- a buffer can show the items of a range and report this alignment: the alignment is at least the
-- alignment of an item, and the range is empty or its first item has the alignment
abbrev pub CanSlice : {T : Type 0} → ℕ → ℕ → SharedBuffer T → Range ℕ → ℕ → Type 0
CanSlice size least b range alignment =
    (range.start ≤ range.end) × (range.end ≤ length b.list) × (least ≤ alignment)
    × ((range.start ≡ range.end)
    ⊎ IsPlaceAligned (b.place + range.start * size) b.declared alignment)

-- the buffer that shows all items of a growing one
abbrev pub as_shared : {T : Type 0} → OpenBuffer T → SharedBuffer T
as_shared growing = record {
  list = growing.list;
  alignment = growing.alignment;
  declared = growing.declared;
  place = 0;
}

-- the items and the reported alignment are the same; the declared alignment is the same, or is the
-- one of a copy
pub record KeepsItems {T : Type 0} (old new : SharedBuffer T) : Type 0 where
  pub list : new.list ≡ old.list
  pub alignment : new.alignment ≡ old.alignment
  pub declared : (new.declared ≡ old.declared)
      ⊎ (new.declared ≡ over_aligned old.alignment)

-- a buffer can show the items of a range and report the same alignment. The buffer itself has that
-- alignment, so it is enough that the byte offset of the range is a multiple of it
abbrev pub CanNarrow : {T : Type 0} → ℕ → ℕ → SharedBuffer T → Range ℕ → Type 0
CanNarrow size least b range =
    CanSlice size least b range b.alignment
    ⊎ ((range.start ≤ range.end) × (range.end ≤ length b.list)
    × (range.start * size % 2 ^ b.alignment ≡ 0))

-- a buffer shows the items whose bytes these are, `size` bytes each, in newly made storage, and
-- reports the alignment that the call asked for
abbrev pub ShowsRead : {T : Type 0} → ℕ → (T → List ℕ) → (T → Type 0) → List ℕ → ℕ
    → SharedBuffer T → Type 0
ShowsRead size form is_in_type bytes asked b =
    IsReadFrom size form is_in_type bytes b.list × ShowsMade b.list asked b
