pub mod Asked
pub mod WordBits
pub use Rattle.vb_bits.specs.Bits
pub use Rattle.vb_bits.specs.Digits
pub use Rattle.vb_bits.specs.InBytes
pub use Rattle.vb_bits.specs.Writes
