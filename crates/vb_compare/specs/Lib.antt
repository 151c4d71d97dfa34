pub mod Compares
pub mod Floats
pub use Rattle.vb_bits.specs.Digits
pub use Rattle.vb_bits.specs.InBytes
pub use Rattle.vb_bits.specs.Writes
