-- The indices with which a closure is called.
use Rattle.std.specs.Prelude.{ℕ, ◌+◌, ◌-◌, Bool, not, cond, List}
use Rattle.vb_bits.specs.Bits.{bit_of}
use Rattle.vb_bits.specs.Digits.{has_bit}
use Rattle.vb_walk.specs.Walks.{places_in}

-- the indices, among the n from a on, whose bit is v; index 0 is bit o of the bytes
abbrev pub places_of : List ℕ → ℕ → Bool → ℕ → ℕ → List ℕ
places_of bytes o v a n =
    places_in (λ i. cond v (bit_of bytes (o + i)) (not (bit_of bytes (o + i)))) a n

-- the indices of a word's true digits; its lowest digit has index a
abbrev pub ones_of : ℕ → ℕ → List ℕ
ones_of word a = places_in (λ i. has_bit word (i - a)) a 64
