pub mod Blocks
pub mod ItemsTaken
pub mod Takes
pub mod ValueBlocks
pub use Rattle.vb_bits.specs.Bits
pub use Rattle.vb_bits.specs.Writes
pub use Rattle.vb_core.specs.Indices
pub use Rattle.vb_view.specs.View
