use Rattle.std.proofs.Common.{◌≡◌, length, take}
use Rattle.vb_bits.specs.Digits.{digits}
use Rattle.vb_pool.proofs.lists.list_digits.Given as goal

-- the first digits
abbrev pub invariant-loop-k : goal.invariant-loop-k
invariant-loop-k l = record {
  digits : take l.k l.list ≡ digits l.word 0 l.k;
  len : length l.list ≡ 64;
}
