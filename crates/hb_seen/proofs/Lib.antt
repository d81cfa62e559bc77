pub mod ShowsLemmas
pub mod StandsAlikeLemmas
pub mod CanTellLemmas
pub mod EndedLemmas
pub mod PiecesLemmas
