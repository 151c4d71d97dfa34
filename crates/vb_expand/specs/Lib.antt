pub mod Scatter
pub use Rattle.vb_bits.specs.Bits
pub use Rattle.vb_bits.specs.InBytes
pub use Rattle.vb_bits.specs.Kept
pub use Rattle.vb_view.specs.View
