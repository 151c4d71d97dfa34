-- The positions of the spaces of a short text, as a number.
use Rattle.std.specs.Prelude.{◌≡◌, ℕ, ◌≤◌, List, map, length}
use Rattle.std.specs.Simd.Lanes.{mask_l}
use Rattle.vb_command.specs.Words.{is_space}

-- the bits of a number mark which bytes of a text of at most 32 bytes are spaces
pub record AreSpaces (text : List ℕ) (spaces : ℕ) : Type 0 where
  pub bits : spaces ≡ mask_l (map is_space text)
  pub short : length text ≤ 32
