pub mod FrontsLemmas
pub mod TalkLemmas
pub mod TurnLemmas
