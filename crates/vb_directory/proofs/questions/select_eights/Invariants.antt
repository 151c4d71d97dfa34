use Rattle.std.proofs.Common.{◌≡◌, ℕ, Option, ◌*◌, ◌<◌, length, slice_index, slice_index_or}
use Rattle.vb_bits.specs.Bits.{Selects}
use Rattle.vb_count.specs.Hits.{hits}
use Rattle.vb_view.specs.View.{bits_of}
use Rattle.vb_directory.proofs.questions.select_eights.Given as goal

abbrev pub invariant-loop-turn : goal.invariant-loop-turn
invariant-loop-turn g l = record {
  long : length l.places ≡ length l.ranks;
  each : (i : ℕ) (d : Option ℕ) → i < 8 * l.turn → Selects (hits l.value (bits_of l.bits))
      (slice_index l.ranks i) (slice_index_or l.places i d);
}
