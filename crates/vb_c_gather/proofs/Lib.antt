mod ColumnLemmas
mod FrontLemmas
