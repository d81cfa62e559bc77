pub mod IdLemmas
pub mod ListingLemmas
pub mod PlanLemmas
mod Worked
