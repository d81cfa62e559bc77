pub mod EventPlaces
pub mod BlindSeats
pub mod NamedActs
pub mod Agreement
pub mod SeenLemmas
pub mod Beginning
pub mod ActParts
