use Rattle.std.proofs.Common.{◌≡◌, ℕ, ◌+◌, ◌<◌, length, slice_index}
use Rattle.vb_directory.proofs.questions.eight_from.Given as goal

abbrev pub invariant-loop-k : goal.invariant-loop-k
invariant-loop-k l = record {
  long : length l.eight ≡ 8;
  each : (i : ℕ) → i < l.k → slice_index l.eight i ≡ slice_index l.ranks (l.at + i);
}
