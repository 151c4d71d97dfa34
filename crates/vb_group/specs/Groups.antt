-- Rows by group: the code of a row is the number of its group.
use Rattle.std.specs.Prelude.{◌≡◌, ◌≢◌, ℕ, ℤ, pos, ◌<◌, ◌≤ℤ◌, ◌<ℤ◌, Bool, true, false, List, []}
use Rattle.std.specs.Prelude.{All, length, map, slice_index_or, Option, Some, None}
use Rattle.std.specs.List.{fold, filter}
use Rattle.std.specs.Ordering.{int_eq}
use Rattle.vb_bits.specs.Bits.{at}
use Rattle.vb_bits.specs.Kept.{kept_by}

-- the selected rows: all, if there is no mask
abbrev pub selected : {R : Type 0} → Option (List Bool) → List R → List R
selected None rows = rows
selected (Some mask) rows = kept_by mask rows

-- row i is selected
abbrev pub is_selected : Option (List Bool) → ℕ → Bool
is_selected None i = true
is_selected (Some mask) i = at mask i

-- the code is the number of one of n groups
abbrev pub IsGroup : ℕ → ℤ → Type 0
IsGroup n code = (pos 0 ≤ℤ code) × (code <ℤ pos n)

-- the codes that are g
abbrev pub codes_of : {C : Type 0} → (C → ℤ) → ℕ → List C → List C
codes_of number g codes = filter (λ code. int_eq (number code) (pos g)) codes

-- the values of the rows whose code is g; a row is a code and a value
abbrev pub values_of : {C V : Type 0} → (C → ℤ) → ℕ → List (C × V) → List V
values_of number g rows =
    map (λ row. row.1) (filter (λ row. int_eq (number row.0) (pos g)) rows)

-- each total has the values of the rows of its group added, one after the other
pub record AddsRows {C V T : Type 0} (number : C → ℤ) (plus : T → V → T) (old new : List T)
    (rows : List (C × V)) : Type 0 where
  pub same_len : length new ≡ length old
  pub each : (g : ℕ) (d : T) → g < length old → slice_index_or new g d
      ≡ fold plus (slice_index_or old g d) (values_of number g rows)

-- the rows with the code of a group are added to the totals; each old total that gets a value is in
-- its type; `good` is whether each row has a group, and always true for additions that skip rows
pub record TriesRows {C V T : Type 0} (number : C → ℤ) (plus : T → V → T) (is_total : T → Type 0)
    (skips : Bool) (old new : List T) (rows : List (C × V)) (good : Bool) : Type 0 where
  pub adds : AddsRows number plus old new rows
  pub in_type : (g : ℕ) (d : T) → g < length old → values_of number g rows ≢ []
      → is_total (slice_index_or old g d)
  pub groups : good ≡ true → skips ≡ false
      → All (λ row. IsGroup (length old) (number row.0)) rows
  pub past : good ≡ false → ¬ All (λ row. IsGroup (length old) (number row.0)) rows
  pub passes : skips ≡ true → good ≡ true

module _ {C : Type 0} (number : C → ℤ) (groups : ℕ) (codes : List C)
    (mask : Option (List Bool)) where
  -- each selected one of the first n rows has the code of a group
  abbrev pub HaveGroups : ℕ → Type 0
  HaveGroups n = (i : ℕ) (d : C) → i < n → is_selected mask i ≡ true
      → IsGroup groups (number (slice_index_or codes i d))

  -- row p is the first that is selected and whose code isn't that of a group
  pub record IsFirstPast (p : ℕ) : Type 0 where
    pub within : p < length codes
    pub counts : is_selected mask p ≡ true
    pub past : (d : C) → ¬ IsGroup groups (number (slice_index_or codes p d))
    pub before : HaveGroups p
