pub mod PlainWords
pub mod Commands
pub mod Interface
pub mod PartsOf
pub mod Stores
pub mod Servers
pub mod Unpadded
