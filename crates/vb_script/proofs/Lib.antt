pub mod InputLines
pub mod KnownBytes
pub mod Lengths
pub mod Parts
pub mod Passed
pub mod Progress
pub mod Scripts
pub mod Searches
