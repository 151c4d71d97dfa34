pub mod CountEditsLemmas
mod CountsLemmas
mod ManyLemmas
