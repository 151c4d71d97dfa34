mod CutLemmas
pub mod WordsLemmas
pub mod OthersLemmas
pub mod WalkLemmas
pub mod PlacesLemmas
pub mod OnesLemmas
pub mod RunsInLemmas
pub mod TakenRunLemmas
pub mod BitsToCome
pub mod WordOnes
