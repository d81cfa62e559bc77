pub mod Exact
pub mod IdentityLaws
pub mod Unseen
