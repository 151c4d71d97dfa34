pub mod Runs
pub mod Slots
pub mod Takes
pub mod WordDigits
