pub mod Growth
pub mod Made
pub mod Places
pub mod Runs
pub mod Slices
pub mod Windows
