-- The buffer that a storage and a window of it represent.
use Rattle.std.specs.Prelude.{Some, None, ℕ, ◌+◌, ◌*◌, ◌^◌, ◌<◌, ◌≤◌, [], length, take, drop}
use Rattle.vb_mem.specs.declared.content.Content.{Content}
use Rattle.vb_mem.specs.declared.content.Content.TheVariants.{Nothing, Stored}
use Rattle.std.specs.Rc.{rc_with_value}
use Rattle.vb_mem.specs.OpenBuffer.{OpenBuffer}
use Rattle.vb_mem.specs.SharedBuffer.{SharedBuffer, IsPlaceAligned, as_shared}

module _ {T A : Type 0} where
  -- the buffer that a contract sees; `size` is the number of bytes of an item
  abbrev pub seen : ℕ → Content T A → SharedBuffer T
  seen size (Nothing exponent) = record {
    list = [];
    alignment = exponent;
    declared = exponent;
    place = 0;
  }
  seen size (Stored rc None) = as_shared rc.value
  seen size (Stored rc (Some window)) = record {
    list = take window.len (drop window.start rc.value.list);
    alignment = window.alignment;
    declared = rc.value.declared;
    place = window.start * size;
  }

  -- a window is in bounds of its storage and ends within `usize`. Its byte offset is a multiple of
  -- the alignment that it reports, which is at least the alignment of an item
  abbrev pub IsSound : ℕ → ℕ → Content T A → Type 0
  IsSound size least (Nothing exponent) = least ≤ exponent
  IsSound size least (Stored rc None) = Unit {0}
  IsSound size least (Stored rc (Some window)) =
      (window.start + window.len ≤ length rc.value.list)
      × (window.start + window.len < 2 ^ 64)
      × (0 < window.len
      → IsPlaceAligned (window.start * size) rc.value.declared window.alignment)
      × (least ≤ window.alignment) × (window.alignment ≤ rc.value.declared)

  -- the buffer shows all of its storage, and P holds of the storage
  abbrev pub IsWhole : (OpenBuffer T → Type 0) → Content T A → Type 0
  IsWhole P (Nothing exponent) = ⊥
  IsWhole P (Stored rc None) = P rc.value
  IsWhole P (Stored rc (Some window)) = ⊥

  -- the same storage with other items and alignments
  abbrev pub with_stored : Content T A → OpenBuffer T → Content T A
  with_stored (Nothing exponent) growing = Nothing exponent
  with_stored (Stored rc window) growing = Stored (rc_with_value rc growing) window
