use Rattle.std.proofs.Common.{◌≡◌, ℕ, Option, ◌+◌, ◌<◌, length, slice_index_or}
use Rattle.vb_directory.proofs.questions.put_eight.Given as goal

abbrev pub invariant-loop-k : goal.invariant-loop-k
invariant-loop-k l = record {
  long : length l.places ≡ length l.initial.places;
  front : (i : ℕ) (d : Option ℕ) → i < l.at
      → slice_index_or l.places i d ≡ slice_index_or l.initial.places i d;
  put : (i : ℕ) (d : Option ℕ) → i < l.k
      → slice_index_or l.places (l.at + i) d ≡ slice_index_or l.eight i d;
}
