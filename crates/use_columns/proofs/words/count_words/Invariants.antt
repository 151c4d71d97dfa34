use Rattle.std.proofs.Common.{◌≡◌, ◌+◌}
use Rattle.std.specs.List.{sum_by}
use Rattle.std.specs.Prelude.{count_ones}
use Rattle.vortex_buffer.specs.Bits.{bits, count}
use Rattle.use_columns.proofs.words.count_words.Given as goal

-- the ones of the remaining words complete the count
abbrev pub invariant-loop-word : goal.invariant-loop-word
invariant-loop-word l =
    l.ones + sum_by count_ones l.word-iterator ≡ count (bits l.bytes l.offset l.len)
