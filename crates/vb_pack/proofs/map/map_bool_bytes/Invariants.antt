use Rattle.std.proofs.Common.{◌+◌, ◌-◌, ◌*◌}
use Rattle.vb_pack.specs.Asked.{Answers, CanAsk, span}
use Rattle.vb_pack.specs.Bits.{bit_of, bits}
use Rattle.vb_pack.specs.Writes.{Writes}
use Rattle.vb_pack.proofs.map.map_bool_bytes.Given as goal

abbrev pub invariant-loop-k : goal.invariant-loop-k
invariant-loop-k g l = record {
  callable : CanAsk (λ p i. goal.F-pre g p i (bit_of l.src (l.offset + i))) (λ p i b q.
      goal.F-step g p i (bit_of l.src (l.offset + i)) b q) l.f (span (64 * l.k) (l.len - 64 * l.k));
  answered : Answers (λ p i b q. goal.F-step g p i (bit_of l.src (l.offset + i)) b q) l.initial.f
      (span 0 (64 * l.k)) (bits l.dst 0 (64 * l.k)) l.f;
  written : Writes l.initial.dst l.dst 0 (bits l.dst 0 (64 * l.k));
}
