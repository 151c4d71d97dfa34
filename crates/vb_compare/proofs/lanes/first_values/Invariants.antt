use Rattle.std.proofs.Common.{◌≡◌, All, length, take}
use Rattle.vb_compare.proofs.lanes.first_values.Given as goal

abbrev pub invariant-loop-k : goal.invariant-loop-k
invariant-loop-k g l = record {
  long : length l.block ≡ 64;
  values : take l.k l.block ≡ take l.k l.values;
  in_type : All (g.T.Element.is_in_type) (take l.k l.block);
}
