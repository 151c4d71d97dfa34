-- Written by tools/write-lists from tools/families/lanes.txt.
use Rattle.std.proofs.Common.{◌≡◌, ℕ, pos, int_lt, ◌<◌, false, length, get_or}
use Rattle.vb_compare.proofs.lanes.wide.I128CompareLanes.less.Given as goal

abbrev pub invariant-loop-k : goal.invariant-loop-k
invariant-loop-k l = record {
  long : length l.bools ≡ 64;
  each : (i : ℕ) → i < l.k → get_or l.bools i false
      ≡ int_lt (get_or l.left i (pos 0)) (get_or l.right i (pos 0));
}
