pub mod Pieces
pub mod SeenSetup
pub mod StandsAlike
pub mod SeenLaws
