pub mod Suits
pub mod Cards
pub mod Touch
pub mod Setup
pub mod Start
pub mod Hands
pub mod Result
pub mod Legality
pub mod Events
pub mod Observed
pub mod Numbers
pub mod Same
pub mod Deals
pub mod Laws
pub mod Marks
pub mod Positions
mod WorkedGames
