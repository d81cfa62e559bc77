-- What does each command write for the replay that the input is?
use Rattle.std.specs.Prelude.{ℕ, ◌-◌, ◌^◌, Bool, true, ◌&&◌, List, ◌++◌, codes, decimal, drop, length, nat_le, nat_lt}
use Rattle.hb_rules.specs.Numbers.{state_number}
use Rattle.hb_rules.specs.Observed.{Observed, observed}
use Rattle.hb_rules.specs.Positions.{ended, score}
use Rattle.hb_rules.specs.Setup.{Position}
use Rattle.hb_replay.specs.Canonical.{canonical_text}
use Rattle.hb_replay.specs.Contents.{Contents}
use Rattle.hb_wire.specs.Lines.{event_lines, game_line}
use Rattle.hb_game_lines.specs.Standing.{standing_text}
use Rattle.hb_words.specs.declared.commands.ReplayCommand.{ReplayCommand}
use Rattle.hb_words.specs.declared.commands.ReplayCommand.TheVariants.{Watch, Look, Check, Copy}

-- the blind set of one seat
abbrev pub only : ℕ → ℕ
only seat = 2 ^ seat

-- the position after the first acts; a position has the newest act first
abbrev pub after_first : ℕ → Position → Position
after_first count p = record p { past = drop (length p.past - count) p.past }

-- what a seat has observed of a game
abbrev pub seen_by : ℕ → Position → Observed
seen_by seat p = observed (only seat) p

-- `watch`: the line that begins the game, and a line for each event that was observed
abbrev pub watch_text : List ℕ → List (List ℕ) → Observed → List ℕ
watch_text name names seen =
    game_line name seen.options names ++ (codes "\n" ++ event_lines seen.events)

-- `check`: the number of players and of acts, the score and how the game stands
abbrev pub check_text : Position → List ℕ
check_text p = codes "ok " ++ decimal p.setup.players ++ codes " " ++ decimal (length p.past)
    ++ codes " " ++ decimal (score p) ++ codes " " ++ decimal (state_number (ended p))
    ++ codes "\n"

-- the game has the view that a command asks for: the seat, and as many acts
abbrev pub has_view : ReplayCommand → Position → Bool
has_view (Watch seat) p = nat_lt seat p.setup.players
has_view (Look seat turn) p = nat_lt seat p.setup.players && nat_le turn (length p.past)
has_view Check p = true
has_view Copy p = true

-- the text that a command writes for a replay: for `watch` and `look` a function of what the seat
-- has observed, and of no deck
abbrev pub output : ReplayCommand → Contents → List ℕ
output (Watch seat) r = watch_text r.name r.players (seen_by seat r.game)
output (Look seat turn) r = standing_text (seen_by seat (after_first turn r.game))
output Check r = check_text r.game
output Copy r = canonical_text r ++ codes "\n"
