mod ColumnLemmas
pub mod KleeneLemmas
mod PartLemmas
