mod SameDeck
mod Counts
mod Ordered
