-- Which game does a written replay stand for? Here are the options of its game, what its actions
-- do, and the replay that it is of a game.
use Rattle.std.specs.Prelude.{ℕ, if◌then◌else◌, Bool, false, ◌==◌, is_some, length}
use Rattle.std.specs.declared.option.Option.{Option}
use Rattle.std.specs.declared.option.Option.TheVariants.{None, Some}
use Rattle.hb_rules.specs.declared.acts.Act.{Act}
use Rattle.hb_rules.specs.declared.acts.Action.{Action}
use Rattle.hb_rules.specs.declared.acts.Action.TheVariants as action
use Rattle.hb_rules.specs.declared.acts.EndHow.{EndHow}
use Rattle.hb_rules.specs.declared.acts.Options.{Options}
use Rattle.hb_rules.specs.declared.variants.Variant.{Variant}
use Rattle.hb_rules.specs.Setup.{Position}
use Rattle.hb_rules.specs.Start.{started}
use Rattle.hb_rules.specs.Positions.{ended, current}
use Rattle.hb_rules.specs.Numbers.{end_number}
use Rattle.hb_json.specs.WrittenModes.{options_with}
use Rattle.hb_replay.specs.declared.written.WrittenAction.{WrittenAction}
use Rattle.hb_replay.specs.declared.written.WrittenAction.TheVariants as written
use Rattle.hb_replay.specs.declared.written.WrittenOptions.{WrittenOptions}
use Rattle.hb_replay.specs.declared.written.WrittenReplay.{WrittenReplay}
use Rattle.hb_replay.specs.Contents.{Contents}

-- the options of the game; the times of an untimed one are ignored
abbrev pub game_options : WrittenOptions → Options
game_options o = options_with o.starting o.modes

-- the game before its first act
abbrev pub opened : Variant → WrittenReplay → Position
opened v w = started v (game_options w.options) (length w.players) w.deck

-- what a written action does
abbrev pub action_of : WrittenAction → Action
action_of (written.Play order) = action.Play order
action_of (written.Discard order) = action.Discard order
action_of (written.Clue to clue) = action.Clue to clue
action_of (written.End who how) = action.End how

-- the seat that acts, if none is written: the current one, and seat 0 once the game has ended
abbrev pub actor : Position → ℕ
actor p = if is_some (ended p) then 0 else current p

-- the seat that takes a written action
abbrev pub who_of : Position → WrittenAction → ℕ
who_of p (written.Play order) = actor p
who_of p (written.Discard order) = actor p
who_of p (written.Clue to clue) = actor p
who_of p (written.End who how) = who

-- the act that a written action is
abbrev pub act_of : Position → WrittenAction → Act
act_of p a = record { who = who_of p a; action = action_of a }

-- the end is there, and is this one
abbrev pub is_end : EndHow → Option EndHow → Bool
is_end how None = false
is_end how (Some h) = end_number h == end_number how

-- the action says the end that the game has come to
abbrev pub says_end : Position → WrittenAction → Bool
says_end p (written.Play order) = false
says_end p (written.Discard order) = false
says_end p (written.Clue to clue) = false
says_end p (written.End who how) = is_end how (ended p)

-- what is played, with its players, name and notes
abbrev pub contents_of : WrittenReplay → Position → Contents
contents_of w p =
    record { players = w.players; name = w.options.variant; game = p; notes = w.notes }
