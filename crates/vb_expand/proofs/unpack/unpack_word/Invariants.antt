use Rattle.std.proofs.Common.{◌≡◌, ◌*◌, map, take}
use Rattle.std.specs.Int.{from_bool}
use Rattle.vb_bits.specs.Digits.{digits}
use Rattle.vb_expand.proofs.unpack.unpack_word.Given as goal

-- the digits so far
abbrev pub invariant-loop-k : goal.invariant-loop-k
invariant-loop-k l = take (16 * l.k) l.out ≡ map from_bool (digits l.word 0 (16 * l.k))
