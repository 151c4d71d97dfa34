mod CalledLemmas
pub mod SetLemmas
mod ShownLemmas
