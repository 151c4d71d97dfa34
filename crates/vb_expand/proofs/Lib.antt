mod ScatterLemmas
mod UnpackLemmas
