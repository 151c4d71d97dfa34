pub mod Hits
pub mod Lanes
pub mod Looks
pub use Rattle.vb_bits.specs.Bits
pub use Rattle.vb_bits.specs.Digits
pub use Rattle.vb_bits.specs.InBytes
