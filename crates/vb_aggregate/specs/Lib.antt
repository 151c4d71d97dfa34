pub mod Extremes
pub mod Floats
pub mod Sums
pub mod Wraps
pub use Rattle.vb_bits.specs.Kept
pub use Rattle.vb_view.specs.View
