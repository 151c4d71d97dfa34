pub mod PartLemmas
pub mod MoveLemmas
