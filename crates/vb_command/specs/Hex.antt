-- Bytes written in hexadecimal, two digits a byte.
use Rattle.std.specs.Prelude.{ℕ, Bool, is_some, ◌+◌, ◌*◌, List, [], ◌∷◌, codes, Option, Some, None}
use Rattle.std.specs.Prelude.{nat_lt, if◌then◌else◌}
use Rattle.std.specs.Char.{digit_value}
use Rattle.std.specs.Str.{bytes_eq}
use Rattle.vb_command.specs.Optional.{◌>>=◌}

-- the value of a hexadecimal digit of either case
abbrev pub hex_value : ℕ → Option ℕ
hex_value c = if nat_lt (digit_value c) 16 then Some (digit_value c) else None

-- whether a byte is a hexadecimal digit of either case
abbrev pub is_digit : ℕ → Bool
is_digit c = is_some (hex_value c)

-- the byte of two digits, the high one first
abbrev pub hex_byte : ℕ → ℕ → Option ℕ
hex_byte a b = do
  high ← hex_value a
  low ← hex_value b
  Some (16 * high + low)

-- the bytes of pairs of digits
abbrev pub hex_pairs : List ℕ → Option (List ℕ)
hex_pairs [] = Some []
hex_pairs (a ∷ []) = None
hex_pairs (a ∷ b ∷ more) = do
  byte ← hex_byte a b
  bytes ← hex_pairs more
  Some (byte ∷ bytes)

-- the bytes that a word writes; `-` writes none
abbrev pub hex : List ℕ → Option (List ℕ)
hex w = if bytes_eq w (codes "-") then Some [] else hex_pairs w
