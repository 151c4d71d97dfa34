pub mod AddsLemmas
pub mod AppenderLemmas
pub mod IndicesLemmas
pub use Rattle.vb_bits.proofs.DigitsLemmas
pub use Rattle.vb_walk.proofs.WordsLemmas
