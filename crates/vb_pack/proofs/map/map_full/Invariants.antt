use Rattle.std.proofs.Common.{◌≡◌, ◌+◌, ◌-◌, take, length}
use Rattle.vb_pack.specs.Asked.{Answers, CanAsk, span}
use Rattle.vb_pack.specs.Bits.{bit_of}
use Rattle.vb_pack.proofs.map.map_full.Given as goal

abbrev pub invariant-loop-i : goal.invariant-loop-i
invariant-loop-i g l = record {
  long : length l.bools ≡ 64;
  callable : CanAsk (λ p i. goal.F-pre g p i (bit_of l.src (l.offset + i))) (λ p i b q.
      goal.F-step g p i (bit_of l.src (l.offset + i)) b q) l.f (span (l.base + l.i) (64 - l.i));
  answered : Answers (λ p i b q. goal.F-step g p i (bit_of l.src (l.offset + i)) b q) l.initial.f
      (span l.base l.i) (take l.i l.bools) l.f;
}
