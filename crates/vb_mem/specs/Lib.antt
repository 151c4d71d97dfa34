pub mod Makes
pub mod Collected
pub mod Content
pub mod Loans
pub mod OpenBuffer
pub mod SharedBuffer
