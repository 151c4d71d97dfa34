use Rattle.std.proofs.Common.{◌≡◌, ◌*◌, min}
use Rattle.vb_bits.specs.Bits.{bits, count}
use Rattle.vb_rank.proofs.count.front_ones.Given as goal

-- the set bits of the words so far
abbrev pub invariant-loop-word : goal.invariant-loop-word
invariant-loop-word l = l.ones ≡ count (bits l.chunk 0 (min l.n (64 * l.word)))
