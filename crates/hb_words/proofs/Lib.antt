pub mod Numerals
pub mod Decoded
pub mod ParserWords
pub mod ParserValues
pub mod ParserCommands
pub mod PartsFound
pub mod CommandWords
pub mod ServerWords
