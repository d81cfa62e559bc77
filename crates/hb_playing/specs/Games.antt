-- What does a room read of the game of its table, and what does an act do to it?
use Rattle.std.specs.Prelude.{ℕ, Bool, false, Option, Some, None, if◌then◌else◌, is_none, is_some, length}
use Rattle.hb_rules.specs.declared.acts.Act.{Act}
use Rattle.hb_rules.specs.declared.acts.Action.{Action}
use Rattle.hb_rules.specs.declared.acts.Rule.{Rule}
use Rattle.hb_rules.specs.Positions.{after, ended, rule}
use Rattle.hb_rules.specs.Setup.{Position, by}
use Rattle.hb_club.specs.declared.items.What.{What}
use Rattle.hb_club.specs.declared.items.What.TheVariants as what

-- it has ended
abbrev pub ended_by : Option Position → Bool
ended_by None = false
ended_by (Some p) = is_some (ended p)

-- the first rule that an action of a seat breaks
abbrev pub rule_by : Option Position → ℕ → Option Action → Option Rule
rule_by (Some p) seat (Some action) = rule p (by seat action)
rule_by (Some p) seat None = None
rule_by None seat action = None

-- the number of its cards
abbrev pub cards_by : Option Position → ℕ
cards_by None = 0
cards_by (Some p) = length p.setup.deck.items

-- the number of its players
abbrev pub players_by : Option Position → ℕ
players_by None = 0
players_by (Some p) = p.setup.players

-- the game after an act, if it breaks no rule
abbrev pub acted : Act → Position → Position
acted act p = if is_none (rule p act) then after p act else p

abbrev pub acted_by : Act → Option Position → Option Position
acted_by act None = None
acted_by act (Some p) = Some (acted act p)

-- the game after an item
abbrev pub game_after : What → Option Position → Option Position
game_after (what.Acted act) p = acted_by act p
game_after _ p = p
