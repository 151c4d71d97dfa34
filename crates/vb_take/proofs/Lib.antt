mod LaneLemmas
mod BlocksLemmas
mod ItemsLemmas
mod TakesLemmas
pub mod TakenLemmas
mod ValueBlocksLemmas
