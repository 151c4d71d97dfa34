use Rattle.std.proofs.Common.{◌+◌, ◌-◌, ◌^◌, ◌<◌}
use Rattle.vb_pack.specs.Asked.{Answers, CanAsk, span}
use Rattle.vb_pack.specs.Bits.{bit_of}
use Rattle.vb_pack.specs.Digits.{digits}
use Rattle.vb_pack.proofs.map.map_part.Given as goal

abbrev pub invariant-loop-i : goal.invariant-loop-i
invariant-loop-i g l = record {
  callable : CanAsk (λ p i. goal.F-pre g p i (bit_of l.src (l.offset + i))) (λ p i b q.
      goal.F-step g p i (bit_of l.src (l.offset + i)) b q) l.f (span (l.base + l.i) (l.len - l.i));
  answered : Answers (λ p i b q. goal.F-step g p i (bit_of l.src (l.offset + i)) b q) l.initial.f
      (span l.base l.i) (digits l.packed 0 l.i) l.f;
  clear : l.packed < 2 ^ l.i;
}
