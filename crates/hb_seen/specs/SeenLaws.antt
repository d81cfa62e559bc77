-- What can be read of a game off what a blind set has observed of it? Each law speaks of all acts
-- that were made, `more ++ past`, and of the first of them, `past`: what the setup that is seen
-- after all of them says of the game as it stood after the first. Without more acts, that is the
-- game as it stands. No law asks that the acts be legal, nor that the deck be one of the variant:
-- only that it have as many cards, and one that there be two players.
use Rattle.std.specs.Prelude.{◌≡◌, ◌≤◌, ℕ, ◌+◌, ◌^◌, false, IsSome, IsTrue, List, ◌++◌, drop, length, take}
use Rattle.hb_rules.specs.declared.acts.Act.{Act}
use Rattle.hb_rules.specs.declared.acts.Action.{Action}
use Rattle.hb_rules.specs.declared.acts.Clue.{Clue}
use Rattle.hb_rules.specs.declared.limits.TheConstants.{FEWEST_PLAYERS}
use Rattle.hb_rules.specs.declared.setups.Setup.{Setup}
use Rattle.hb_rules.specs.Events.{acts_of, in_blind, observation}
use Rattle.hb_rules.specs.Legality.{rule, touched}
use Rattle.hb_rules.specs.Result.{ended}
use Rattle.hb_rules.specs.Setup.{by}
use Rattle.hb_seen.specs.Pieces.{piece_events, pieces}
use Rattle.hb_seen.specs.SeenSetup.{HasCards, can_tell, seen_setup}
use Rattle.hb_seen.specs.StandsAlike.{StandsAlike}

-- how the game stands
abbrev pub StandingIsSeen : Type 0
StandingIsSeen = (blind : ℕ) (g : Setup) (more past : List Act) → HasCards g
    → StandsAlike (seen_setup blind g (more ++ past)) g past

-- which cards a clue touches in a hand that is seen
abbrev pub TouchedAreSeen : Type 0
TouchedAreSeen = (blind : ℕ) (g : Setup) (more past : List Act) (to : ℕ) (clue : Clue)
    → HasCards g → in_blind blind to ≡ false
    → touched (seen_setup blind g (more ++ past)) past to clue ≡ touched g past to clue

-- the rule that a seat's action breaks
abbrev pub RulesAreSeen : Type 0
RulesAreSeen = (blind : ℕ) (g : Setup) (more past : List Act) (who : ℕ) (action : Action)
    → HasCards g → IsTrue (can_tell blind who action)
    → rule (seen_setup blind g (more ++ past)) past (by who action) ≡ rule g past (by who action)

-- so a seat that sees all hands but its own sees which rule each of its own actions breaks
abbrev pub OwnRulesAreSeen : Type 0
OwnRulesAreSeen = (g : Setup) (more past : List Act) (seat : ℕ) (action : Action) → HasCards g
    → rule (seen_setup (2 ^ seat) g (more ++ past)) past (by seat action)
    ≡ rule g past (by seat action)

-- and who sees all hands sees which rule any act breaks
abbrev pub AllRulesAreSeen : Type 0
AllRulesAreSeen = (g : Setup) (more past : List Act) (act : Act) → HasCards g
    → rule (seen_setup 0 g (more ++ past)) past act ≡ rule g past act

-- once the game has ended, its own setup is seen
abbrev pub EndedGamesAreSeen : Type 0
EndedGamesAreSeen = (blind : ℕ) (g : Setup) (more past : List Act) → HasCards g
    → FEWEST_PLAYERS ≤ g.players → IsSome (ended g past) → seen_setup blind g (more ++ past) ≡ g

-- the events of the first pieces are what was observed after the first acts
abbrev pub PiecesAreSeen : Type 0
PiecesAreSeen = (blind : ℕ) (g : Setup) (more past : List Act)
    → piece_events (drop (length more) (pieces blind g (more ++ past))) ≡ observation blind g past

-- an observation begins with each earlier one
abbrev pub ObservationsGrow : Type 0
ObservationsGrow = (blind : ℕ) (g : Setup) (more past : List Act)
    → take (length (observation blind g past)) (observation blind g (more ++ past))
    ≡ observation blind g past

-- there is a piece for the deal and one for each act
abbrev pub PiecesAreCounted : Type 0
PiecesAreCounted = (blind : ℕ) (g : Setup) (past : List Act)
    → length (pieces blind g past) ≡ length past + 1

-- an observation names the acts that were made
abbrev pub ActsAreSeen : Type 0
ActsAreSeen = (blind : ℕ) (g : Setup) (past : List Act) → acts_of (observation blind g past) ≡ past
