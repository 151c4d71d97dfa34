use Rattle.std.proofs.Common.{◌-◌, ◌*◌}
use Rattle.vb_pack.specs.Asked.{Answers, CanAsk, span}
use Rattle.vb_pack.specs.WordBits.{WritesWords, word_bits}
use Rattle.vb_pack.proofs.words.pack_bools_into_words.Given as goal

abbrev pub invariant-loop-k : goal.invariant-loop-k
invariant-loop-k g l = record {
  callable : CanAsk (goal.F-pre g) (goal.F-step g) l.f (span (64 * l.k) (l.len - 64 * l.k));
  answered : Answers
      (goal.F-step g) l.initial.f (span 0 (64 * l.k)) (word_bits l.words l.at (64 * l.k)) l.f;
  written : WritesWords l.initial.words l.words l.at (word_bits l.words l.at (64 * l.k));
}
