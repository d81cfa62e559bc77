pub mod DeskTurns
pub mod Desks
pub mod AnswerSteps
