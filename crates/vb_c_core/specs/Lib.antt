pub mod Fits
pub mod Place
pub mod Taken
pub mod Validity
pub use Rattle.vb_bits.specs.Bits
pub use Rattle.vb_bits.specs.InBytes
