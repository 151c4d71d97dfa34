mod ComparedLemmas
mod KleeneLemmas
mod LengthsLemmas
mod WrittenOver
