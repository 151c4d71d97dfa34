mod Ends
mod FilterLemmas
mod GreaterLemmas
mod Records
