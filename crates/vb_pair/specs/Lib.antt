pub mod Beside
pub mod Merged
pub use Rattle.vb_bits.specs.Bits
pub use Rattle.vb_bits.specs.InBytes
pub use Rattle.vb_bits.specs.Operators
pub use Rattle.vb_count.specs.Looks
