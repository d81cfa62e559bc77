pub mod Begins
pub mod HandLines
pub mod Standing
