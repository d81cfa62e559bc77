pub mod RangesLemmas
pub mod Copies
pub mod HandsLemmas
pub mod Rules
mod FittingPlays
pub mod HandSize
pub mod Undrawn
pub mod Touched
pub mod Heights
pub mod Identities
pub mod Decks
pub mod SuitCount
pub mod DeckSize
pub mod NumbersLemmas
pub mod SameLemmas
pub mod IsDeal
pub mod Possible
