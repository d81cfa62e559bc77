-- Which act is taken next in a made game, and how is the game played to its end? Acts are chosen
-- with knowledge of the deck.
use Rattle.std.specs.Prelude.{ℕ, zero, suc, ◌+◌, ◌%◌, Bool, ◌&&◌, ◌||◌, ◌==◌, Option, Some, None, if◌then◌else◌, nat_lt, option_map, slice_get, unwrap_or}
use Rattle.std.specs.List.{find}
use Rattle.std.specs.Option.{option_or}
use Rattle.hb_rules.specs.declared.acts.Act.{Act}
use Rattle.hb_rules.specs.declared.acts.Action.{Action}
use Rattle.hb_rules.specs.declared.acts.Action.TheVariants as action
use Rattle.hb_rules.specs.declared.acts.Clue.TheVariants as clue
use Rattle.hb_rules.specs.declared.acts.EndHow.{EndHow}
use Rattle.hb_rules.specs.declared.acts.EndHow.TheVariants.{Terminated}
use Rattle.hb_rules.specs.declared.limits.TheConstants.{FULL_TOKENS}
use Rattle.hb_rules.specs.Positions.{after, current, ended, fits, hand, tokens}
use Rattle.hb_rules.specs.Result.{turns}
use Rattle.hb_rules.specs.Setup.{Position, by, card}

-- hands stand ascending, so the first card of a hand is the one of lowest order
abbrev pub lowest : Position → ℕ → Option ℕ
lowest p seat = slice_get (hand p seat) 0

-- first, to play the lowest card of the hand that fits
abbrev pub fitting_play : Position → Option Action
fitting_play p = option_map action.Play (find (fits p) (hand p (current p)))

-- second, at an even turn with a token held, or with all tokens held, to clue the rank of the next
-- seat's lowest card

abbrev pub may_clue : Position → Bool
may_clue p =
    (turns p.past % 2 == 0 && nat_lt 0 (tokens p)) || tokens p == FULL_TOKENS

abbrev pub next_seat : Position → ℕ
next_seat p = (current p + 1) % p.setup.players

abbrev pub rank_clue_of : Position → ℕ → Action
rank_clue_of p order = action.Clue (next_seat p) (clue.Rank (card p.setup order).rank)

abbrev pub rank_clue : Position → Option Action
rank_clue p =
    if may_clue p then option_map (rank_clue_of p) (lowest p (next_seat p)) else None

-- third, to discard the lowest card of the hand, unless all tokens are held
abbrev pub lowest_discard : Position → Option Action
lowest_discard p =
    if nat_lt (tokens p) FULL_TOKENS then option_map action.Discard (lowest p (current p)) else None

-- the first of these that there is; else, to end the game
abbrev pub made_action : Position → Action
made_action p =
    unwrap_or (option_or (fitting_play p) (option_or (rank_clue p) (lowest_discard p)))
    (action.End Terminated)

abbrev pub made_act : Position → Act
made_act p = by (current p) (made_action p)

-- the game up to its end, and by so many acts at most

abbrev pub with_act : Option EndHow → Position → Position
with_act (Some how) p = p
with_act None p = after p (made_act p)

unfoldable pub played_on : ℕ → Position → Position
played_on zero p = p
played_on (suc more) p = played_on more (with_act (ended p) p)
