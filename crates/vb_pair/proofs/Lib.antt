pub mod MergedLemmas
pub mod BesideLemmas
pub mod StopsLemmas
