-- Which game that has ended does the text of a kept game say, and in which text is a game kept?
use Rattle.std.specs.Prelude.{ℕ, Bool, true, false, List, Option, Some, None, option_and_then, is_some, Result, Ok, Err}
use Rattle.serde_json.specs.Data.{Data}
use Rattle.serde_json.specs.Read.{read}
use Rattle.hb_rules.specs.Positions.{ended}
use Rattle.hb_rules.specs.Setup.{Position}
use Rattle.hb_replay.specs.declared.errors.ReplayError.{ReplayError}
use Rattle.hb_replay.specs.Canonical.{canonical_text}
use Rattle.hb_replay.specs.Contents.{Contents, contents}
use Rattle.hb_replay.specs.Refusals.{replay_of}

-- a game that a replay says, with the name of its variant and the names of its players
pub record Finished : Type 0 where
  pub name : List ℕ
  pub players : List (List ℕ)
  pub game : Position

abbrev pub finished_when : Bool → Contents → Option Finished
finished_when true r = Some (record { name = r.name; players = r.players; game = r.game })
finished_when false r = None

-- the game of a replay, if it has ended
abbrev pub ended_in : Result Contents ReplayError → Option Finished
ended_in (Ok r) = finished_when (is_some (ended r.game)) r
ended_in (Err why) = None

-- the ended game that a text says; none if the text is no replay of an ended game
unfoldable pub read_ended : List ℕ → Option Finished
read_ended text = option_and_then (λ (d : Data). ended_in (replay_of d)) (read text)

-- the canonical text of a game, with its players, the name of its variant and its notes
unfoldable pub game_text : List (List ℕ) → List ℕ → Position → List (List (List ℕ)) → List ℕ
game_text players name game notes = canonical_text (contents players name game notes)
