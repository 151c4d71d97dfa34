use Rattle.std.proofs.Common.{◌≡◌, ℕ, ◌+◌, ◌*◌, ◌%◌, ◌^◌, ◌<◌, ◌≤◌, length}
use Rattle.vb_directory.specs.Counts.{count_before_group, count_in_group}
use Rattle.vb_directory.proofs.counts.add_before.Given as goal

-- the counts from `from` on and before k are changed; the others are as they were
abbrev pub invariant-loop-k : goal.invariant-loop-k
invariant-loop-k l = record {
  len : length l.numbers ≡ length l.initial.numbers;
  before : (k : ℕ) → k < l.from
      → count_before_group l.numbers k ≡ count_before_group l.initial.numbers k;
  done : (k : ℕ) → l.from ≤ k → k < l.k → 131 * k + 4 ≤ length l.initial.numbers
      → count_before_group l.numbers k
      ≡ (count_before_group l.initial.numbers k + l.step) % 2 ^ 64;
  rest : (k : ℕ) → l.k ≤ k
      → count_before_group l.numbers k ≡ count_before_group l.initial.numbers k;
  within : (k i : ℕ) → i < 128
      → count_in_group l.numbers k i ≡ count_in_group l.initial.numbers k i;
}
