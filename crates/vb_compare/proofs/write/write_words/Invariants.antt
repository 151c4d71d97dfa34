use Rattle.std.proofs.Common.{◌+◌, ◌*◌, take, drop}
use Rattle.vb_bits.specs.Writes.{Writes}
use Rattle.vb_compare.proofs.write.write_words.Given as goal

abbrev pub invariant-loop-k : goal.invariant-loop-k
invariant-loop-k g l =
    Writes l.initial.out l.out (l.offset + l.from)
    (take (64 * l.k) (drop l.from (g.S.Truths.truths l.source)))
