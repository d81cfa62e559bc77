pub mod ClocksLemmas
pub mod NotesLemmas
pub mod DealsLemmas
pub mod KeptRowsLemmas
pub mod LoadsLemmas
pub mod ReviewsLemmas
