use Rattle.std.proofs.Common.{◌≡◌, true, ℕ, ◌+◌, ◌^◌, ◌<◌, length}
use Rattle.std.specs.Prelude.{count_ones}
use Rattle.std.specs.List.{FoldsTo}
use Rattle.vb_bits.specs.Digits.{has_bit}
use Rattle.vb_pack.specs.Asked.{CanAsk}
use Rattle.vb_bit_buffer.specs.Called.{ones_of}
use Rattle.vb_bit_buffer.proofs.bit_buffer.for_each.ones.Given as goal

-- the calls at the remaining true digits end in the state in which all calls end
abbrev pub invariant-loop : goal.invariant-loop
invariant-loop g l = record {
  number : length (ones_of l.left l.base) + l.counter ≡ count_ones l.word;
  small : l.left < 2 ^ 64;
  fits : (i : ℕ) → has_bit l.left i ≡ true → l.base + i < 2 ^ 64;
  callable : CanAsk (goal.F-pre g) (goal.F-step g) l.f (ones_of l.left l.base);
  ran : (last : _) → FoldsTo (λ p i q. goal.F-step g p i tt q) l.f (ones_of l.left l.base) last
      → FoldsTo (λ p i q. goal.F-step g p i tt q) l.initial.f (ones_of l.word l.base) last;
}
