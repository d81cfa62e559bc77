pub mod KeptGames
pub mod Listing
pub mod MemoryKeeper
pub mod Plans
pub mod Told
