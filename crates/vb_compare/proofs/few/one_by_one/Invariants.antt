use Rattle.std.proofs.Common.{◌≡◌, ◌^◌, ◌<◌, take, drop}
use Rattle.vb_bits.specs.Digits.{digits}
use Rattle.vb_compare.proofs.few.one_by_one.Given as goal

abbrev pub invariant-loop-k : goal.invariant-loop-k
invariant-loop-k g l = record {
  digits : digits l.word 0 l.k ≡ take l.k (drop l.from (g.S.Truths.truths l.source));
  clear : l.word < 2 ^ l.k;
}
