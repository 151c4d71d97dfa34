pub mod FilledLemmas
pub mod OnesLemmas
