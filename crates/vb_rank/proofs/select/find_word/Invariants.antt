use Rattle.std.proofs.Common.{◌≡◌, ◌+◌, ◌*◌, ◌<◌, ◌≤◌}
use Rattle.vb_bits.specs.Bits.{bits, count}
use Rattle.vb_bits.specs.Digits.{digits}
use Rattle.vb_count.specs.Hits.{hits}
use Rattle.vb_rank.proofs.select.find_word.Given as goal

abbrev pub invariant-loop-k : goal.invariant-loop-k
invariant-loop-k l = record {
  within : l.at ≤ l.k;
  low : l.before ≤ l.n;
  before : l.before ≡ count (hits l.value (bits l.chunk 0 (64 * l.at)));
  seen : l.seen ≡ count (hits l.value (bits l.chunk 0 (64 * l.k)));
  word : digits l.word 0 64 ≡ hits l.value (bits l.chunk (64 * l.at) 64);
  high : l.at < l.k → l.n < count (hits l.value (bits l.chunk 0 (64 * (l.at + 1))));
}
