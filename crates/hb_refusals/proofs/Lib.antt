pub mod KeptRepliesLemmas
pub mod OptionLemmas
pub mod OwnRepliesLemmas
pub mod RowLemmas
