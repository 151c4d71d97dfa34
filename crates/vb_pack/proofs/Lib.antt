pub mod AnswersLemmas
pub mod BytesLemmas
pub mod MaskLemmas
pub mod SpliceLemmas
pub mod TruthLemmas
pub mod WordsLemmas
