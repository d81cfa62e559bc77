pub mod CountsLemmas
pub mod MomentsLemmas
pub mod TalkLemmas
pub mod TellingLemmas
