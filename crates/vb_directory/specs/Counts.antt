-- The counts before blocks, by groups of 128 blocks, in one list of numbers of 16 bits.
use Rattle.std.specs.Prelude.{◌≡◌, ℕ, zero, suc, ◌+◌, ◌-◌, ◌*◌, ◌/◌, ◌^◌, ◌<◌, Bool, List, length}
use Rattle.std.specs.Prelude.{map, min, take, slice_index}
use Rattle.std.specs.Int.{div_ceil}
use Rattle.std.specs.List.{range_with_len}
use Rattle.vb_bits.specs.Bits.{count}
use Rattle.vb_rank.specs.declared.size.TheConstants.{BLOCK_BITS}
use Rattle.vb_directory.specs.declared.size.TheConstants.{GROUP_BLOCKS, GROUP_BITS}
use Rattle.vb_directory.specs.declared.size.TheConstants.{GROUP_NUMBERS, BEFORE_DIGITS}

-- the length of the list for n bits: one number for each block of 512 bits, and three more for each
-- group
abbrev pub numbers_for : ℕ → ℕ
numbers_for n = div_ceil n BLOCK_BITS + (BEFORE_DIGITS - 1) * div_ceil n GROUP_BITS

-- the number of true values before group k, as four digits, the lowest first
abbrev pub count_before_group : List ℕ → ℕ → ℕ
count_before_group c k = slice_index c (GROUP_NUMBERS * k)
    + 2 ^ 16 * slice_index c (GROUP_NUMBERS * k + 1)
    + 2 ^ 32 * slice_index c (GROUP_NUMBERS * k + 2)
    + 2 ^ 48 * slice_index c (GROUP_NUMBERS * k + 3)

-- the number of true values of group k before its block i; there are none before its first one
abbrev pub count_in_group : List ℕ → ℕ → ℕ → ℕ
count_in_group c k zero = 0
count_in_group c k (suc i) = slice_index c (GROUP_NUMBERS * k + BEFORE_DIGITS + i)

-- the numbers are the counts before all blocks of the list
pub record AreCounts (l : List Bool) (c : List ℕ) : Type 0 where
  pub long : length c ≡ numbers_for (length l)
  pub each : (k i : ℕ) → i < GROUP_BLOCKS → GROUP_BITS * k + BLOCK_BITS * i < length l
      → count_before_group c k + count_in_group c k i
      ≡ count (take (GROUP_BITS * k + BLOCK_BITS * i) l)

-- the counts before all groups, as far as the list has their digits
abbrev pub counts_before : List ℕ → List ℕ
counts_before c = map (λ k. count_before_group c k)
    (range_with_len 0 ((length c + (GROUP_NUMBERS - BEFORE_DIGITS)) / GROUP_NUMBERS))

-- the counts before the first b blocks of group k, as far as the list has their numbers
abbrev pub counts_within : List ℕ → ℕ → ℕ → List ℕ
counts_within c k b = map (λ i. count_in_group c k i)
    (range_with_len 0 (min b (length c - (GROUP_NUMBERS * k + (BEFORE_DIGITS - 1)))))

-- numbers, and the number of them for which there is capacity
pub record HeldCounts : Type 0 where
  pub numbers : List ℕ
  pub room : ℕ
