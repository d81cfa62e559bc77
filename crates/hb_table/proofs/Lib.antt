pub mod TableMovesLemmas
pub mod KeptEntriesLemmas
pub mod StateLemmas
pub mod ClerkStateLemmas
pub mod PendingStateLemmas
pub mod TableGamesLemmas
pub mod TableFactsLemmas
pub mod ReviewStepsLemmas
mod RoomRowLemmas
mod VerdictLemmas
pub mod RoomKeepsLemmas
mod AddLemmas
mod SoundLemmas
mod TimedLemmas
mod StepLemmas
mod FewSeatsLemmas
mod KeptGamesLemmas
mod AcceptLemmas
mod RoomOpenLemmas
mod ClerkLemmas
mod HeadLemmas
mod RoomShowsLemmas
mod ViewLemmas
