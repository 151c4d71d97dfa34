pub mod Combined
pub mod Kleene
pub use Rattle.vb_bits.specs.Digits
pub use Rattle.vb_bits.specs.InBytes
pub use Rattle.vb_bits.specs.Writes
pub use Rattle.vb_view.specs.View
