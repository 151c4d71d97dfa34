-- Items as bytes.
use Rattle.std.specs.Prelude.{◌≡◌, ℕ, ◌*◌, List, length}
use Rattle.std.specs.List.{All, flat_map}

-- the bytes of the items, one item after the other
abbrev pub byteform : {T : Type 0} → (T → List ℕ) → List T → List ℕ
byteform form items = flat_map form items

-- no other items of the type have these bytes
abbrev pub AreOnlyItems : {T : Type 0} → (T → List ℕ) → (T → Type 0) → List ℕ → List T → Type 0
AreOnlyItems {T} form is_in_type bytes items = (others : List T) → All is_in_type others
    → byteform form others ≡ bytes → others ≡ items

-- these are the items whose bytes are `bytes`, `size` bytes each: they are values of their type,
-- and no other items have these bytes
pub record IsReadFrom {T : Type 0} (size : ℕ) (form : T → List ℕ) (is_in_type : T → Type 0)
    (bytes : List ℕ) (items : List T) : Type 0 where
  pub bytes_are : byteform form items ≡ bytes
  pub in_type : All is_in_type items
  pub len : length items * size ≡ length bytes
  pub only : AreOnlyItems form is_in_type bytes items
