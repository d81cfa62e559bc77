pub mod Entrances
pub mod MachineTurns
pub mod TurnFronts
pub mod TurnReplies
pub mod HouseHalls
