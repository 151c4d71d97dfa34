-- Parts of a word, and the bits of each that a mask selects.
use Rattle.std.specs.Prelude.{◌≡◌, ℕ, ◌+◌, ◌*◌, ◌^◌, ◌<◌, List, length, slice_index}
use Rattle.std.specs.Simd.Lanes.{mask_l}
use Rattle.vb_bits.specs.Bits.{count}
use Rattle.vb_bits.specs.Digits.{digits}
use Rattle.vb_bits.specs.Kept.{kept_by}

-- the bits that the mask selects among the k from bit a on, packed, as a number
abbrev pub kept_number : ℕ → ℕ → ℕ → ℕ → ℕ
kept_number mask word a k = mask_l (kept_by (digits mask a k) (digits word a k))

-- for n parts of k bits, the lowest first: the selected bits of each, packed, and 2 to their number
pub record ArePacked (mask word k n : ℕ) (kept powers : List ℕ) : Type 0 where
  pub lengths : (length kept ≡ n) × (length powers ≡ n)
  pub each : (i : ℕ) → i < n → slice_index kept i ≡ kept_number mask word (k * i) k
  pub numbers : (i : ℕ) → i < n → slice_index powers i ≡ 2 ^ count (digits mask (k * i) k)

-- n pairs of neighbours: the first of each, and the second
pub record ArePairs (lanes : List ℕ) (n : ℕ) (firsts seconds : List ℕ) : Type 0 where
  pub lengths : (length firsts ≡ n) × (length seconds ≡ n)
  pub first : (i : ℕ) → i < n → slice_index firsts i ≡ slice_index lanes (2 * i)
  pub second : (i : ℕ) → i < n → slice_index seconds i ≡ slice_index lanes (2 * i + 1)
