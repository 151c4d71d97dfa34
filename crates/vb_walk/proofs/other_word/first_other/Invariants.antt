use Rattle.std.proofs.Common.{◌≡◌, ◌+◌, ◌-◌, ◌*◌, ◌%◌, ◌≤◌}
use Rattle.vb_walk.specs.Walks.{AreAll}
use Rattle.vb_walk.proofs.other_word.first_other.Given as goal

abbrev pub invariant-loop-to : goal.invariant-loop-to
invariant-loop-to l = record {
  from : l.at + 8 ≤ l.to;
  within : l.to ≤ l.end;
  whole : (l.end - l.to) % 8 ≡ 0;
  passed : AreAll l.bytes l.value (8 * l.at) (8 * l.to);
}

abbrev pub decreases-loop-to : goal.decreases-loop-to
decreases-loop-to l = l.end - l.to
