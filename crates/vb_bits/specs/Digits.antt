-- The binary digits of a number as truth values.
use Rattle.std.specs.Prelude.{ℕ, ◌/◌, ◌%◌, Bool, ◌==◌, List, map, slice_index}
use Rattle.std.specs.Int.{bit_at}
use Rattle.std.specs.List.{range_with_len}

-- whether digit i of the number is 1
abbrev pub has_bit : ℕ → ℕ → Bool
has_bit w i = bit_at w i == 1

-- the k digits from digit a on, lowest first
unfoldable pub digits : ℕ → ℕ → ℕ → List Bool
digits w a k = map (has_bit w) (range_with_len a k)

-- digit i of words of 64 digits, one after the other
abbrev pub lane_bit : List ℕ → ℕ → Bool
lane_bit words i = has_bit (slice_index words (i / 64)) (i % 64)

-- the digits of four words, one after the other
unfoldable pub lane_bits : List ℕ → List Bool
lane_bits words = map (lane_bit words) (range_with_len 0 256)
