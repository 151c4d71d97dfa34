mod ExtremesLemmas
pub mod FloatsLemmas
pub mod OnesLemmas
mod SumsLemmas
mod TypesLemmas
pub mod WordsLemmas
