use Rattle.std.proofs.Common.{◌-◌, ◌*◌}
use Rattle.vb_pack.specs.Asked.{Answers, CanAsk, span}
use Rattle.vb_pack.specs.Bits.{bits}
use Rattle.vb_pack.specs.Writes.{Writes}
use Rattle.vb_pack.proofs.bytes.collect_bool_bytes.Given as goal

abbrev pub invariant-loop-k : goal.invariant-loop-k
invariant-loop-k g l = record {
  callable : CanAsk (goal.F-pre g) (goal.F-step g) l.f (span (64 * l.k) (l.len - 64 * l.k));
  answered : Answers (goal.F-step g) l.initial.f
      (span 0 (64 * l.k)) (bits l.bytes 0 (64 * l.k)) l.f;
  written : Writes l.initial.bytes l.bytes 0 (bits l.bytes 0 (64 * l.k));
}
