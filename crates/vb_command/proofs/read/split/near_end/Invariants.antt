use Rattle.std.proofs.Common.{◌≡◌, ℕ, ◌-◌, ◌<◌, ◌≤◌, false, length, get_or}
use Rattle.std.specs.Prelude.{◌==◌}
use Rattle.vb_command.proofs.read.split.near_end.Given as goal

-- no byte so far is a separator
abbrev pub invariant-loop-at : goal.invariant-loop-at
invariant-loop-at l = record {
  within : l.at ≤ length l.bytes;
  other : (k : ℕ) → k < l.at → (get_or l.bytes k 0 == l.separator) ≡ false;
}

abbrev pub decreases-loop-at : goal.decreases-loop-at
decreases-loop-at l = length l.bytes - l.at
