pub mod Columns
pub mod Decoded
pub mod Filters
pub mod Format
pub mod Page
pub mod Rows
pub mod Sequences
pub mod Sources
