pub mod WordLists
pub mod Cuts
pub mod NumberWords
pub mod HexLists
pub mod Lines
pub mod Behind
pub mod SpaceLemmas
pub mod ListedLemmas
