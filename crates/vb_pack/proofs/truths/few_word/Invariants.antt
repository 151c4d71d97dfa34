use Rattle.std.proofs.Common.{◌≡◌, ◌^◌, ◌<◌, map, take}
use Rattle.vb_pack.specs.Digits.{digits}
use Rattle.vb_pack.proofs.truths.few_word.Given as goal

abbrev pub invariant-loop-i : goal.invariant-loop-i
invariant-loop-i g l = record {
  digits : digits l.packed 0 l.i ≡ take l.i (map g.T.Truth.truth l.values);
  clear : l.packed < 2 ^ l.i;
}
