pub mod Histories
pub mod ItemLemmas
pub mod IsConsistentLemmas
pub mod DrawsLemmas
pub mod LooksLemmas
pub mod HandsOnLemmas
pub mod SplitsAndJoins
pub mod Calling
