-- Bits appended to bytes a word at a time, with the last word not yet written.
use Rattle.std.specs.Prelude.{ℕ, ◌*◌, ◌/◌, ◌%◌, Bool, List, ◌++◌}
use Rattle.vb_bits.specs.Bits.{bits}
use Rattle.vb_bits.specs.Digits.{digits}

-- the first n bits: the bytes have those of the whole words, and the pending word has the rest
abbrev pub first_bits : List ℕ → ℕ → ℕ → List Bool
first_bits bytes pending n = bits bytes 0 (64 * (n / 64)) ++ digits pending 0 (n % 64)
