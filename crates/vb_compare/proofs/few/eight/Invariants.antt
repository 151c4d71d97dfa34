use Rattle.std.proofs.Common.{◌≡◌, ℕ, ◌+◌, ◌<◌, length, get_or, false}
use mir.Val.{bool_byte}
use Rattle.vb_compare.proofs.few.eight.Given as goal

abbrev pub invariant-loop-k : goal.invariant-loop-k
invariant-loop-k g l = record {
  long : length l.bytes ≡ 8;
  written : (i : ℕ) → i < l.k → get_or l.bytes i 0
      ≡ bool_byte (get_or (g.S.Truths.truths l.source) (l.from + i) false);
}
