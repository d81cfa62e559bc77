pub mod Matching
pub mod Verdict
pub mod Placing
pub mod Exchange
