pub mod Codes
pub use Rattle.vb_bits.specs.InBytes
pub use Rattle.vb_bits.specs.Writes
pub use Rattle.vb_c_core.specs.Fits
pub use Rattle.vb_compare.specs.Compares
pub use Rattle.vb_compare.specs.Floats
