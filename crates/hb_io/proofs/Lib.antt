pub mod NameText
pub mod Reading
pub mod WritingLemmas
