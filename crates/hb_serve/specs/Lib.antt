pub mod Comings
pub mod Explanations
pub mod Counting
pub mod Waiting
pub mod Clerking
pub mod Closings
pub mod Serving
pub mod Verdicts
