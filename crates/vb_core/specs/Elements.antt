-- The laws of element types.
use Rattle.std.specs.Prelude.{◌≡◌, ℕ, ◌<◌, ◌^◌, ◌%◌, List, length}
use Rattle.std.specs.List.{All}

-- each number is from 0 to 255
abbrev pub AreBytes : List ℕ → Type 0
AreBytes = All (λ byte. byte < 256)

-- the laws of `Element`: the values of a type and the lists of `size` bytes determine each other
pub record IsElement {T : Type 0} (size align align_exponent : ℕ) (is_in_type : T → Type 0)
    (form : T → List ℕ) (value_of : List ℕ → T) : Type 0 where
  pub size_is_positive : 0 < size
  pub align_is_power : align ≡ 2 ^ align_exponent
  pub align_in_range : align_exponent < 64
  pub align_divides_size : size % align ≡ 0
  pub form_has_size : (x : T) → is_in_type x → length (form x) ≡ size
  pub form_is_bytes : (x : T) → is_in_type x → AreBytes (form x)
  pub get_after_put : (x : T) → is_in_type x → value_of (form x) ≡ x
  pub put_after_get : (bytes : List ℕ) → length bytes ≡ size → AreBytes bytes
      → form (value_of bytes) ≡ bytes
