mod AddsLemmas
mod AddsWordLemmas
mod ChecksLemmas
mod CountsLemmas
mod TriesLemmas
mod UndoLemmas
mod ZipLemmas
