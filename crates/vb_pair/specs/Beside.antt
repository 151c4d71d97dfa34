-- Looks at a window that is read alongside another one.
use Rattle.std.specs.Prelude.{◌≡◌, ℕ, ◌+◌, ◌-◌, ◌*◌, ◌/◌, ◌%◌, ◌<◌, List, get_or, min}
use Rattle.std.specs.Prelude.{Bool, IsTrue}
use Rattle.vb_bits.specs.Bits.{at}
use Rattle.vb_count.specs.Looks.{looks, LooksAtMost, CountedBytes}

-- the number of bits from bit p on in the held byte: 0 if bit p is the first of its byte
abbrev pub bits_held : ℕ → ℕ
bits_held p = (8 - p % 8) % 8

-- y is the byte that has bit p, if bit p isn't the first of its byte
pub record IsHeld (bytes : List ℕ) (p y : ℕ) : Type 0 where
  pub held : 0 < p % 8 → y ≡ get_or bytes (p / 8) 0

-- the looks at at most eight bits from bit p on: one, unless the held byte has all of them
abbrev pub part_looks : ℕ → ℕ → ℕ
part_looks p n = min (n - bits_held p) 1

-- the looks at n bits from bit p on, read alongside n bits from bit o on. There is one look at the
-- byte of bit p if bit p isn't its first bit. Then each part of the n bits from bit o on has its
-- looks: h bits up to the next whole byte, m whole bytes by chunks, words and bytes with one look
-- each, and t bits after them
abbrev pub looks_beside : ℕ → ℕ → ℕ → ℕ
looks_beside o p n =
    let h = min n ((8 - o % 8) % 8) in
    let m = (n - h) / 8 in
    let t = (n - h) % 8 in
    min (min n (p % 8)) 1 + part_looks p h + m / 64 + m % 64 / 8 + m % 8
    + part_looks (p + h + 8 * m) t

-- a search of the values l, which start at bit o of the other source, to the back: if it finds a
-- true value, its looks are at most one more than those of a count of the bits up to that value,
-- included
abbrev pub StopsBeside : List Bool → ℕ → CountedBytes → CountedBytes → Type 0
StopsBeside l o before after =
    (p : ℕ) → IsTrue (at l p) → LooksAtMost (looks o (p + 1) + 1) before after
