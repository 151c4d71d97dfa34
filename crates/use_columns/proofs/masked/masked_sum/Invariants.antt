use Rattle.std.proofs.Common.{◌≡◌, ◌+◌, ◌<◌, ◌^◌, length, slice_index}
use Rattle.std.specs.List.{All, sum, sum_by}
use Rattle.vortex_buffer.specs.Kept.{kept_by}
use Rattle.use_columns.proofs.masked.masked_sum.Given as goal

-- the values at the remaining indices complete the sum
abbrev pub invariant-loop-place : goal.invariant-loop-place
invariant-loop-place g l = record {
  whole : l.sum + sum_by (slice_index l.items) l.place-iterator
      ≡ sum (kept_by l.valid.bits l.items);
  below : All (λ i. i < length l.items) l.place-iterator;
  fits : sum (kept_by l.valid.bits l.items) < 2 ^ 64;
}
