use Rattle.std.proofs.Common.{◌+◌, ◌-◌}
use Rattle.std.specs.List.{FoldsTo}
use Rattle.vb_pack.specs.Asked.{CanAsk, span}
use Rattle.vb_bit_buffer.proofs.bit_buffer.for_each.all.Given as goal

-- the calls at the remaining indices end in the state in which all calls end
abbrev pub invariant-loop-i : goal.invariant-loop-i
invariant-loop-i g l = record {
  callable : CanAsk (goal.F-pre g) (goal.F-step g) l.f (span (l.base + l.i) (64 - l.i));
  ran : (last : _)
      → FoldsTo (λ p i q. goal.F-step g p i tt q) l.f (span (l.base + l.i) (64 - l.i)) last
      → FoldsTo (λ p i q. goal.F-step g p i tt q) l.initial.f (span l.base 64) last;
}
