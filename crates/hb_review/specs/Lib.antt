pub mod ReviewModel
pub mod Reviews
pub mod ReviewSteps
