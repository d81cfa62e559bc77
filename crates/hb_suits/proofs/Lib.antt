mod Sizes
mod Finds
mod PlacesLemmas
mod Spellings
mod Listed
mod Joined
mod Answered
