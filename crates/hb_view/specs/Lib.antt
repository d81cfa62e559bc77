pub mod StreamClocks
pub mod GameTexts
pub mod StreamViews
pub mod Cursors
pub mod Writing
pub mod Pumps
pub mod StreamLaws
