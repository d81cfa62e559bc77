pub mod Houses
pub mod Counters
pub mod Deeds
pub mod Ends
