pub mod Counts
pub use Rattle.vb_bits.specs.Bits
pub use Rattle.vb_bits.specs.InBytes
pub use Rattle.vb_count.specs.Hits
pub use Rattle.vb_count.specs.Looks
pub use Rattle.vb_rank.specs.Tables
pub use Rattle.vb_view.specs.View
