mod BehindLemmas
mod EightLemmas
pub mod FewLemmas
pub mod LaneLemmas
pub mod TruthLemmas
