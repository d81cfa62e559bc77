pub mod Answers
pub mod Limits
pub mod Links
pub mod Passing
