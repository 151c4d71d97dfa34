use Rattle.std.proofs.Common.{◌*◌, map, take}
use Rattle.vb_pack.specs.Writes.{Writes}
use Rattle.vb_pack.proofs.truths.pack_words.Given as goal

abbrev pub invariant-loop-k : goal.invariant-loop-k
invariant-loop-k g l =
    Writes l.initial.bytes l.bytes 0 (take (64 * l.k) (map g.T.Truth.truth l.values))
