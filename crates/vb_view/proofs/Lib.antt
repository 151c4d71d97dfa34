mod CompareLemmas
pub mod EditLemmas
