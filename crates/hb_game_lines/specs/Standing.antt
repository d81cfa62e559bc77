-- How does a game stand, as far as a viewer has observed it, and what is the viewer written of
-- that?
use Rattle.std.specs.Prelude.{ℕ, List, ◌++◌, Some, None, codes, if◌then◌else◌, is_some, length, map}
use Rattle.std.specs.List.{range_with_len}
use Rattle.hb_rules.specs.Cards.{suit_count}
use Rattle.hb_rules.specs.Observed.{Observed}
use Rattle.hb_rules.specs.Positions.{current, ended, height, left, score, strikes, tokens}
use Rattle.hb_rules.specs.Setup.{Position}
use Rattle.hb_sight.specs.Seen.{seen_position}
use Rattle.hb_wire.specs.declared.state.State.{State}
use Rattle.hb_wire.specs.Lines.{state_line}
use Rattle.hb_game_lines.specs.HandLines.{hand_lines_of}

-- how a game stands
abbrev pub state_of : Position → State
state_of p = record {
  current = if is_some (ended p) then None else Some (current p);
  deck = left p;
  score = score p;
  stacks = record { items = map (height p) (range_with_len 0 (suit_count p.setup.variant)) };
  strikes = strikes p;
  tokens = tokens p;
  turn = length p.past;
}

-- how a game stands, by what is seen of it
abbrev pub seen_state : Observed → State
seen_state seen = state_of (seen_position seen)

-- what a viewer is written of a state: its line, and a line for each hand
unfoldable pub standing_text : Observed → List ℕ
standing_text seen = state_line (seen_state seen) ++ codes "\n" ++ hand_lines_of seen
