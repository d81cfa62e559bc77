-- Internal: no public clause cites this.
-- Which notes were set, as a list?
use Rattle.std.specs.Prelude.{List, [], ◌∷◌}
use Rattle.hb_club.specs.ClerkCalls.{SetNote}
use Rattle.hb_playing.specs.declared.set_notes.Newest.{Newest}
use Rattle.hb_playing.specs.declared.set_notes.Newest.TheVariants as newest

-- the newest note, and then those before it
abbrev pub notes_of : Newest → List SetNote
notes_of newest.None = []
notes_of (newest.Set name order text before) =
    record { name = name; order = order; text = text.value } ∷ before.value
