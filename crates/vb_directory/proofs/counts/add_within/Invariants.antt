use Rattle.std.proofs.Common.{◌≡◌, ℕ, ◌+◌, ◌%◌, ◌^◌, ◌<◌, ◌≤◌, length, slice_index}
use Rattle.vb_directory.proofs.counts.add_within.Given as goal

-- the numbers from `from` on and before k are changed; the others are as they were
abbrev pub invariant-loop-k : goal.invariant-loop-k
invariant-loop-k l = record {
  len : length l.numbers ≡ length l.initial.numbers;
  before : (k : ℕ) → k < l.from → slice_index l.numbers k ≡ slice_index l.initial.numbers k;
  done : (k : ℕ) → l.from ≤ k
      → k < l.k → slice_index l.numbers k ≡ (slice_index l.initial.numbers k + l.step) % 2 ^ 16;
  rest : (k : ℕ) → l.k ≤ k → slice_index l.numbers k ≡ slice_index l.initial.numbers k;
  behind : (k : ℕ) → l.to ≤ k → slice_index l.numbers k ≡ slice_index l.initial.numbers k;
}
