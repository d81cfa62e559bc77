pub mod CrossingLemmas
pub mod OpeningLemmas
pub mod ServingLemmas
pub mod EndLemmas
pub mod SoundLemmas
