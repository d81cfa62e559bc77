-- What do contracts see of a notebook?
use Rattle.std.specs.Prelude.{ℕ, List}
use Rattle.hb_club.specs.ClerkCalls.{SetNote}

-- the notes that were set, the newest first, and for how many more there is room
pub record HeldNotes : Type 0 where
  pub notes : List SetNote
  pub spare : ℕ
