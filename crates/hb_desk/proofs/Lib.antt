pub mod MarksLemmas
pub mod StreamLemmas
pub mod FollowsLemmas
pub mod DeskLemmas
pub mod GoesToLemmas
