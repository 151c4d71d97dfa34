-- The value of a `BitBuffer` in contracts.
use Rattle.std.specs.Prelude.{◌≡◌, ℕ, ◌+◌, ◌/◌, ◌%◌, Bool, List, length, drop}
use Rattle.std.specs.Int.{div_ceil}

-- a set whose storage may be shared: its bits, the index of the first one in the bytes, and the
-- bytes
pub record SharedSet : Type 0 where
  pub bits : List Bool
  pub offset : ℕ
  pub bytes : List ℕ

-- a set made from these bits: they begin with the first bit of the bytes, which are as few as hold
-- them
pub record IsFreshSet (made : List Bool) (s : SharedSet) : Type 0 where
  pub bits : s.bits ≡ made
  pub len : length s.bits ≡ length made
  pub offset : s.offset ≡ 0
  pub byte_len : length s.bytes ≡ div_ceil (length made) 8

-- a set has these bits from this offset on, in as few bytes as hold them
pub record HoldsAlone (held : List Bool) (first : ℕ) (s : SharedSet) : Type 0 where
  pub bits : s.bits ≡ held
  pub offset : s.offset ≡ first
  pub byte_len : length s.bytes ≡ div_ceil (first + length held) 8

-- a set of the bits that begin at bit `start` of a storage; its bytes begin with the byte of the
-- first bit
pub record SharesFrom (start : ℕ) (storage : List ℕ) (shared : List Bool)
    (s : SharedSet) : Type 0 where
  pub bits : s.bits ≡ shared
  pub offset : s.offset ≡ start % 8
  pub bytes : s.bytes ≡ drop (start / 8) storage
