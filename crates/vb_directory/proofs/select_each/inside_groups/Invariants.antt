use Rattle.std.proofs.Common.{◌≡◌, ℕ, ◌-◌, ◌*◌, ◌<◌, length, min, slice_index, slice_index_or}
use Rattle.std.specs.Int.{div_ceil}
use Rattle.vb_directory.specs.declared.probe_groups.Withins.{Withins}
use Rattle.vb_directory.proofs.select_each.inside_groups.Given as goal

abbrev pub invariant-loop-k : goal.invariant-loop-k
invariant-loop-k l = record {
  long_levels : length l.levels ≡ 8;
  long_sizes : length l.sizes ≡ 8;
  long_rest : length l.rest ≡ 8;
  levels : (i : ℕ) (d : Withins) → i < l.k → (slice_index_or l.levels i d).group
      ≡ slice_index l.group i;
  parts : (i : ℕ) (d : Withins) → i < l.k → (slice_index_or l.levels i d).blocks
      ≡ slice_index l.sizes i;
  sizes : (i : ℕ) → i < l.k → slice_index l.sizes i
      ≡ min (div_ceil (l.len - 65536 * slice_index l.group i) 512) 128;
  rest : (i : ℕ) → i < l.k → slice_index l.rest i ≡ slice_index l.ns i - slice_index l.before i;
}
