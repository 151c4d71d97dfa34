-- Lemmas of other crates for the hint `using(vortex_buffer::proofs::Hints::..)` of a function. A
-- hint finds the lemmas of this file, and not those of the re-exported crates.
pub use Rattle.vb_bits.proofs.BitsLemmas.{length-bits, at-bits, bits-add, count-append, count-le}
pub use Rattle.vb_bits.proofs.BitsLemmas.{count-complement}
pub use Rattle.vb_bits.proofs.KeptLemmas.{map-places, length-kept_by, sum_by-places, sum-kept_by-le}
pub use Rattle.vb_bits.proofs.OperatorsLemmas.{length-merged_by, at-merged_by}
pub use Rattle.vb_bits.proofs.PlacesLemmas.{places_cons, length-places, places_below}
pub use Rattle.vb_bits.proofs.RunsLemmas.{runs_within}
pub use Rattle.vb_core.specs.ElementLaws.{unsigned_laws, signed_laws}
pub use Rattle.vb_core.specs.ExactCounts.{unsigned_range_counts, signed_range_counts}
