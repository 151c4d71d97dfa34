pub mod Faulty
pub mod Refusing
