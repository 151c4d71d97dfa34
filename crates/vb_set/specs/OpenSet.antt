-- The value of a `BitBufferMut` in contracts.
use Rattle.std.specs.Prelude.{◌≡◌, ℕ, ◌+◌, ◌-◌, ◌*◌, ◌^◌, ◌<◌, ◌≤◌, Bool, List, [], ◌++◌}
use Rattle.std.specs.Prelude.{length, min, max, Result, IsOk, IsOkUnless, IsErrOf, OnErr}
use Rattle.std.specs.Int.{div_ceil}
use Rattle.std.specs.List.{refill}
use Rattle.vb_bit_buffer.specs.SharedSet.{SharedSet}
use Rattle.vb_core.specs.declared.error.BufferError.{BufferError}
use Rattle.vb_core.specs.declared.error.BufferError.TheVariants.{OutOfMemory, TooManyBits}
use Rattle.vb_bits.specs.Bits.{bits}
use Rattle.vb_bits.specs.Writes.{Writes, extension}

-- a set that one owner edits: its bits, the index of the first one in the bytes, the bytes with the
-- exponent of their alignment, and the capacity in bits
pub record OpenSet : Type 0 where
  pub bits : List Bool
  pub offset : ℕ
  pub bytes : List ℕ
  pub alignment : ℕ
  pub room : ℕ

-- the number of bits from bit o on that fit in n bytes, and whose end fits in 64 bits
abbrev pub bit_room : ℕ → ℕ → ℕ
bit_room n o = min (n * 8) (2 ^ 64 - 1) - o

-- the same set over the same number of other bytes
abbrev pub with_bytes : OpenSet → List ℕ → OpenSet
with_bytes s bytes =
    let filled = refill (length s.bytes) s.bytes bytes in
    record s { bits = bits filled s.offset (length s.bits); bytes = filled }

-- no bits and no bytes; the alignment has this exponent
pub record IsEmptySet (exponent : ℕ) (s : OpenSet) : Type 0 where
  pub bits : s.bits ≡ []
  pub offset : s.offset ≡ 0
  pub bytes : s.bytes ≡ []
  pub alignment : s.alignment ≡ exponent

-- a set made from these bits: they begin with the first bit of as few bytes as hold them, and the
-- alignment is 1
pub record IsFreshOpenSet (made : List Bool) (s : OpenSet) : Type 0 where
  pub bits : s.bits ≡ made
  pub len : length s.bits ≡ length made
  pub offset : s.offset ≡ 0
  pub byte_len : length s.bytes ≡ div_ceil (length made) 8
  pub alignment : s.alignment ≡ 0

-- a set for editing with the bits, the offset and the bytes of a shared set, and alignment 1
pub record HoldsShared (shared : SharedSet) (s : OpenSet) : Type 0 where
  pub bits : s.bits ≡ shared.bits
  pub offset : s.offset ≡ shared.offset
  pub bytes : s.bytes ≡ shared.bytes
  pub alignment : s.alignment ≡ 0

-- an edit in place keeps offset, alignment, capacity and the numbers of bits and bytes
pub record KeepsLayout (old new : OpenSet) : Type 0 where
  pub len : length new.bits ≡ length old.bits
  pub offset : new.offset ≡ old.offset
  pub byte_len : length new.bytes ≡ length old.bytes
  pub alignment : new.alignment ≡ old.alignment
  pub room : new.room ≡ old.room

-- growth keeps offset and alignment, and the capacity does not shrink
pub record KeepsStart (old new : OpenSet) : Type 0 where
  pub offset : new.offset ≡ old.offset
  pub alignment : new.alignment ≡ old.alignment
  pub room : old.room ≤ new.room

-- the bits of a list are appended, and the bytes grow if they are too few
pub record AddsBits (added : List Bool) (old new : OpenSet) : Type 0 where
  pub bits : new.bits ≡ old.bits ++ added
  pub len : length new.bits ≡ length old.bits + length added
  pub bytes : Writes (extension old.bytes new.bytes) new.bytes (old.offset + length old.bits) added
  pub byte_len : length new.bytes
      ≡ max (length old.bytes) (div_ceil (old.offset + length old.bits + length added) 8)

-- a call that needs n more bits. It succeeds if there is capacity. It returns `TooManyBits` if the
-- end of the bits does not fit in 64 bits; otherwise `OutOfMemory` is its only error. On error the
-- set and its capacity are unchanged
pub record NeedsBits {T : Type 0} (n : ℕ) (result : Result T BufferError)
    (old new : OpenSet) : Type 0 where
  pub in_room : length old.bits + n ≤ old.room → IsOk result
  pub fits : old.offset + length old.bits + n < 2 ^ 64 → IsOkUnless result OutOfMemory
  pub too_many : 2 ^ 64 ≤ old.offset + length old.bits + n → IsErrOf result TooManyBits
  pub err : OnErr result (new ≡ old)
