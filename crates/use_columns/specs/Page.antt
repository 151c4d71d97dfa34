-- A column in a file.
use Rattle.std.specs.Prelude.{◌≡◌, ℕ, ◌+◌, ◌*◌, ◌⊎◌, List, length, drop, slice_index}
use Rattle.std.specs.Int.{to_le_bytes, w32, div_ceil}
use Rattle.vortex_buffer.specs.Bits.{bits}
use Rattle.vortex_buffer.specs.ByteForm.{byteform}
use Rattle.vortex_buffer.specs.declared.BufferError.TheVariants.{OutOfMemory}
use Rattle.use_columns.specs.Rows.{Rows}
use Rattle.use_columns.specs.declared.page.PageError.{PageError}
use Rattle.use_columns.specs.declared.page.PageError.TheVariants.{Length, Buffer}

-- the number of rows of a page: its first byte
abbrev pub rows_of : List ℕ → ℕ
rows_of page = slice_index page 0

-- the index of the values, after that byte and a mask of whole bytes
abbrev pub values_at : List ℕ → ℕ
values_at page = 1 + div_ceil (rows_of page) 8

-- a page has a byte and a mask, and four bytes for each row
abbrev pub HasAll : List ℕ → Type 0
HasAll page = length page ≡ values_at page + 4 * rows_of page

-- a page of this column
pub record IsPage (page : List ℕ) (column : Rows) : Type 0 where
  pub len : HasAll page
  pub rows : length column.values ≡ rows_of page
  pub valid : column.valid ≡ bits page 8 (rows_of page)
  pub values : byteform (to_le_bytes w32) column.values ≡ drop (values_at page) page

-- the bytes are not a page, or memory ran out
abbrev pub IsNoPageOrMemory : List ℕ → PageError → Type 0
IsNoPageOrMemory page error = ((error ≡ Length) × (HasAll page → ⊥))
    ⊎ (HasAll page × (error ≡ Buffer OutOfMemory))
