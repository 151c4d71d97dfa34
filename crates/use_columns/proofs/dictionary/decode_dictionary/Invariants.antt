use Rattle.std.proofs.Common.{◌≡◌, length, map, take, slice_index}
use Rattle.use_columns.specs.Columns.{AreKnown}
use Rattle.use_columns.proofs.dictionary.decode_dictionary.Given as goal

-- the codes so far are known, and were looked up
abbrev pub invariant-loop-code : goal.invariant-loop-code
invariant-loop-code g l = AreKnown (length l.dictionary) (take l.code-index l.codes)
    × (l.column.list ≡ map (slice_index l.dictionary) (take l.code-index l.codes))
