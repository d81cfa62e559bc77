-- Of what are the texts of a turn a function?
use Rattle.std.specs.Prelude.{◌≡◌, ℕ}
use Rattle.hb_io.specs.declared.got.Got.{Got}
use Rattle.hb_club.specs.Fronts.{Fronts, House}
use Rattle.hb_talk.specs.declared.sessions.Session.{Session}
use Rattle.hb_talk.specs.Errands.{asked}
use Rattle.hb_talk.specs.Turns.{heard, turn}

-- two turns of a session that hear the same are the same, whatever the houses, the lists and the
-- decks are
abbrev pub TurnsSeeTheView : Type 0
TurnsSeeTheView = (h k : House) (m n : ℕ) (f g : Fronts) (s : Session) (moment : ℕ) (came : Got)
    → heard h m f (asked s moment came) ≡ heard k n g (asked s moment came)
    → turn h m f s moment came ≡ turn k n g s moment came
