pub mod WireError
pub mod Command
pub mod Opening
pub mod Fields
pub mod Parsed
pub mod Ranges
pub mod Printed
