pub mod BanksLemmas
pub mod Kept
