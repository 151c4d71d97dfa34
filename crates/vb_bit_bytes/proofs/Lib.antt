pub mod BytesLemmas
mod CombinedLemmas
mod ItemsLemmas
mod WindowsLemmas
