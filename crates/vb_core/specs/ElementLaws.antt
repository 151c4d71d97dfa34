-- The whole numbers of each width, as elements. The laws of `Element` cite these lemmas, so they
-- are in specs.
use Rattle.std.proofs.Common.{◌≡◌, ℕ, ◌^◌, ◌<◌, FitsSigned, refl, ap, ◌∙◌, lit<}
use Rattle.std.specs.Int.{Width, w8, w16, w32, w64, w128, byte_len, to_le_bytes, from_le_bytes}
use Rattle.std.specs.Int.{cast_signed, cast_unsigned}
use Rattle.std.proofs.Math.Nat.{mod_self}
use Rattle.std.proofs.Math.Facts.{Fits-of_z}
use Rattle.std.proofs.lemmas.Int.{of_z-to_z, to_z-of_z}
use mir.Val.{bits}
use Rattle.vb_core.specs.Elements.{IsElement}
use Rattle.vb_core.specs.LittleEndian.{length-to_le_bytes, to_le_bytes_are_bytes}
use Rattle.vb_core.specs.LittleEndian.{from_le_bytes-to_le_bytes, to_le_bytes-from_le_bytes}
use Rattle.vb_core.specs.LittleEndian.{from_le_bytes_fits}

-- the number of bytes of a width is 2 to this power
abbrev pub byte_exponent : Width → ℕ
byte_exponent w8 = 0
byte_exponent w16 = 1
byte_exponent w32 = 2
byte_exponent w64 = 3
byte_exponent w128 = 4

-- a size that is a power of two below `2 ^ 64`
record IsSize (size exponent : ℕ) : Type 0 where
  positive : 0 < size
  power : size ≡ 2 ^ exponent
  in_range : exponent < 64

-- the number of bytes of a width is such a size
byte_len_is_size : (w : Width) → IsSize (byte_len w) (byte_exponent w)
byte_len_is_size w8 = record { positive = lit< tt; power = refl; in_range = lit< tt }
byte_len_is_size w16 = record { positive = lit< tt; power = refl; in_range = lit< tt }
byte_len_is_size w32 = record { positive = lit< tt; power = refl; in_range = lit< tt }
byte_len_is_size w64 = record { positive = lit< tt; power = refl; in_range = lit< tt }
byte_len_is_size w128 = record { positive = lit< tt; power = refl; in_range = lit< tt }

-- the laws of the unsigned numbers of a width
pub unsigned_laws : (w : Width)
    → IsElement (byte_len w) (byte_len w) (byte_exponent w) (λ x. x < 2 ^ bits w) (to_le_bytes w)
    (from_le_bytes w)
unsigned_laws w = record {
  size_is_positive = (byte_len_is_size w).positive;
  align_is_power = (byte_len_is_size w).power;
  align_in_range = (byte_len_is_size w).in_range;
  align_divides_size = mod_self (byte_len w);
  form_has_size = λ x _. length-to_le_bytes w x;
  form_is_bytes = λ x _. to_le_bytes_are_bytes w x;
  get_after_put = from_le_bytes-to_le_bytes w;
  put_after_get = to_le_bytes-from_le_bytes w;
}

-- the laws of the signed numbers of a width, in two's complement
pub signed_laws : (w : Width)
    → IsElement (byte_len w) (byte_len w) (byte_exponent w) (FitsSigned w)
    (λ x. to_le_bytes w (cast_unsigned w x)) (λ bytes. cast_signed w (from_le_bytes w bytes))
signed_laws w = record {
  size_is_positive = (byte_len_is_size w).positive;
  align_is_power = (byte_len_is_size w).power;
  align_in_range = (byte_len_is_size w).in_range;
  align_divides_size = mod_self (byte_len w);
  form_has_size = λ x _. length-to_le_bytes w (cast_unsigned w x);
  form_is_bytes = λ x _. to_le_bytes_are_bytes w (cast_unsigned w x);
  get_after_put =
      λ x fits. ap (cast_signed w)
      (from_le_bytes-to_le_bytes w (cast_unsigned w x) (Fits-of_z fits).fits) ∙ to_z-of_z w x fits;
  put_after_get = λ bytes len all.
      ap (to_le_bytes w) (of_z-to_z w (from_le_bytes w bytes) (from_le_bytes_fits w bytes len all))
      ∙ to_le_bytes-from_le_bytes w bytes len all;
}
