pub mod Banks
pub mod Calls
pub mod Clock
pub mod Timer
