use Rattle.std.proofs.Common.{◌≡◌, ◌+◌, ◌-◌, take, length}
use Rattle.vb_pack.specs.Asked.{Answers, CanAsk, span}
use Rattle.vb_pack.proofs.collect.collect_full.Given as goal

abbrev pub invariant-loop-i : goal.invariant-loop-i
invariant-loop-i g l = record {
  long : length l.bools ≡ 64;
  callable : CanAsk (goal.F-pre g) (goal.F-step g) l.f (span (l.base + l.i) (64 - l.i));
  answered : Answers (goal.F-step g) l.initial.f (span l.base l.i) (take l.i l.bools) l.f;
}
