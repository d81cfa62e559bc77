pub mod BytePlaces
pub mod FirstLines
pub mod FurtherLines
pub mod LineWords
pub mod MadeLegality
pub mod MadePlay
pub mod PairLemmas
pub mod ScriptNumbers
