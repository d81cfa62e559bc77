pub mod ListLemmas
pub mod ClockLemmas
pub mod CountLemmas
pub mod FrontsLemmas
pub mod WaitLemmas
pub mod ClerkLemmas
pub mod TendLemmas
pub mod ServeLemmas
