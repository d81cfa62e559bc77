pub mod Results
pub mod JsonReading
pub mod OptionKey
pub mod WrittenModes
pub mod Values
pub mod Line
