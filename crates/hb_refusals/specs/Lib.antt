pub mod FactRows
pub mod Facts
pub mod KeptReplies
pub mod ReplyLaws
pub mod RowLaws
