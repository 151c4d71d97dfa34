use Rattle.std.proofs.Common.{◌≡◌, ℕ, ◌<◌, List, ◌++◌, length, map, slice_index}
use Rattle.std.specs.List.{All}
use Rattle.vortex_buffer.specs.Kept.{kept_by}
use Rattle.use_columns.specs.Columns.{AreEnds}
use Rattle.use_columns.proofs.masked.masked_min_max.Given as goal

-- the values so far have these ends, and the values at the remaining indices complete them
abbrev pub invariant-loop-place : goal.invariant-loop-place
invariant-loop-place g l = record {
  ends : (before : List ℕ)
      × (before ++ map (slice_index l.items) l.place-iterator ≡ kept_by l.valid.bits l.items)
      × AreEnds before l.ends;
  below : All (λ i. i < length l.items) l.place-iterator;
}
