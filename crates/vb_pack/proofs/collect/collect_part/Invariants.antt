use Rattle.std.proofs.Common.{◌+◌, ◌-◌, ◌^◌, ◌<◌}
use Rattle.vb_pack.specs.Asked.{Answers, CanAsk, span}
use Rattle.vb_pack.specs.Digits.{digits}
use Rattle.vb_pack.proofs.collect.collect_part.Given as goal

abbrev pub invariant-loop-i : goal.invariant-loop-i
invariant-loop-i g l = record {
  callable : CanAsk (goal.F-pre g) (goal.F-step g) l.f (span (l.base + l.i) (l.len - l.i));
  answered : Answers (goal.F-step g) l.initial.f (span l.base l.i) (digits l.packed 0 l.i) l.f;
  clear : l.packed < 2 ^ l.i;
}
