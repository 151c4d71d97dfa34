-- Written by tools/write-lists from tools/families/lanes.txt.
use Rattle.std.proofs.Common.{◌≡◌, ℕ, nat_eq, ◌<◌, false, length, get_or}
use Rattle.vb_compare.proofs.lanes.wide.U128CompareLanes.equal.Given as goal

abbrev pub invariant-loop-k : goal.invariant-loop-k
invariant-loop-k l = record {
  long : length l.bools ≡ 64;
  each : (i : ℕ) → i < l.k → get_or l.bools i false
      ≡ nat_eq (get_or l.left i 0) (get_or l.right i 0);
}
