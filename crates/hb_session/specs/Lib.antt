pub mod Ends
pub mod Conversations
pub mod Talking
pub mod Holding
