pub mod Groups
pub mod Reversed
pub use Rattle.vb_aggregate.specs.Sums
pub use Rattle.vb_bits.specs.Kept
pub use Rattle.vb_view.specs.View
