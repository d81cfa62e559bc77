-- In which pieces is a blind set told a game? First the events of the deal, and then those of each
-- act. Pieces stand newest first, as acts do.
use Rattle.std.specs.Prelude.{ℕ, List, [], ◌∷◌, ◌++◌}
use Rattle.hb_rules.specs.declared.acts.Act.{Act}
use Rattle.hb_rules.specs.declared.events.Event.{Event}
use Rattle.hb_rules.specs.declared.setups.Setup.{Setup}
use Rattle.hb_rules.specs.Events.{act_events, blank, deal}

-- what a blind set is told, in pieces
abbrev pub pieces : ℕ → Setup → List Act → List (List Event)
pieces blind g [] = blank blind (deal g) ∷ []
pieces blind g (act ∷ past) = blank blind (act_events g past act) ∷ pieces blind g past

-- the events of all pieces, the oldest first
abbrev pub piece_events : List (List Event) → List Event
piece_events [] = []
piece_events (piece ∷ older) = piece_events older ++ piece
