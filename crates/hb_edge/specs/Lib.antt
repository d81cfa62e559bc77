pub mod Counts
pub mod Memory
pub mod Spawning
pub mod System
pub mod Talk
pub mod Telling
