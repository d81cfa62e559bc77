-- Which script is made of a number of tables and a seed, and what is said of its run?
use Rattle.std.specs.Prelude.{ℕ, zero, suc, ◌+◌, ◌-◌, ◌%◌, ◌^◌, ◌==◌, List, [], ◌∷◌, ◌++◌, Option, Some, None, codes, count_by, decimal, flat_map, length, map, refl, replicate, sum}
use Rattle.std.specs.Int.{to_le_bytes, w64}
use Rattle.std.specs.List.{range_with_len}
use Rattle.hb_io.specs.declared.got.Got.TheVariants as got
use Rattle.hb_rules.specs.declared.acts.Act.{Act}
use Rattle.hb_rules.specs.declared.acts.Action.{Action}
use Rattle.hb_rules.specs.declared.acts.Action.TheVariants as action
use Rattle.hb_rules.specs.declared.acts.Clue.{Clue}
use Rattle.hb_rules.specs.declared.acts.Clue.TheVariants as clue
use Rattle.hb_rules.specs.declared.limits.TheConstants.{MOST_ACTS}
use Rattle.hb_rules.specs.declared.suits.Suit.TheVariants as suit
use Rattle.hb_rules.specs.declared.variants.Variant.{Variant}
use Rattle.hb_rules.specs.Positions.{score}
use Rattle.hb_rules.specs.Setup.{Position}
use Rattle.hb_rules.specs.Start.{default_options, started}
use Rattle.hb_request.specs.declared.requests.Ask.{Ask}
use Rattle.hb_request.specs.declared.requests.Ask.TheVariants as ask
use Rattle.hb_request.specs.declared.requests.Request.TheVariants as request
use Rattle.hb_request.specs.declared.requests.WireClue.{WireClue}
use Rattle.hb_request.specs.declared.requests.WireClue.TheVariants as wire_clue
use Rattle.hb_request.specs.Printed.{request_text}
use Rattle.hb_club.specs.declared.shoes.Shoe.{Shoe}
use Rattle.hb_club.specs.TableFacts.{shuffled_deck}
use Rattle.hb_talk.specs.declared.scripts.ScriptLine.{ScriptLine}
use Rattle.hb_talk.specs.declared.scripts.ScriptLine.TheVariants as line
use Rattle.hb_script.specs.declared.limits.TheConstants.{MADE_MEMBERS}
use Rattle.hb_script.specs.MadeActs.{played_on}

-- the games

-- the script's seed: the eight bytes of the number, lowest first, and zeros
abbrev pub made_seed : ℕ → List ℕ
made_seed seed = to_le_bytes w64 seed ++ replicate 24 0

-- the shoe of its rooms: no deck is written
abbrev pub made_shoe : ℕ → Shoe
made_shoe seed = record { seed = made_seed seed; written = None }

abbrev pub no_variant : Variant
no_variant =
    record {
      suits = Some suit.Red ∷ Some suit.Yellow ∷ Some suit.Green ∷ Some suit.Blue ∷ Some suit.Purple
          ∷ None ∷ [];
      special = None;
      valid = refl;
    }

-- how many play at a table: 2 to 6, in turn
abbrev pub made_players : ℕ → ℕ
made_players table = 2 + (table - 1) % 5

-- the game of a table before its first act. Room 1 deals this deck there
abbrev pub made_start : ℕ → ℕ → Position
made_start seed table =
    started no_variant default_options (made_players table)
    (shuffled_deck no_variant (made_seed seed) (2 ^ 32 + table))

-- the game of a table at its end
abbrev pub made_game : ℕ → ℕ → Position
made_game seed table = played_on MOST_ACTS (made_start seed table)

-- the requests at a table

-- what a member asks; none to open the table without options
pub record Asked : Type 0 where
  pub member : ℕ
  pub ask : Option Ask

abbrev pub asks : ℕ → Ask → Asked
asks member ask = record { member = member; ask = Some ask }

abbrev pub wire_clue_of : Clue → WireClue
wire_clue_of (clue.Color index) = wire_clue.Color index
wire_clue_of (clue.Rank rank) = wire_clue.Rank rank

-- the request for an action
abbrev pub ask_of : Action → Ask
ask_of (action.Play order) = ask.Play order
ask_of (action.Discard order) = ask.Discard order
ask_of (action.Clue to given) = ask.Clue to (wire_clue_of given)
ask_of (action.End how) = ask.Terminate

abbrev pub asks_act : Act → Asked
asks_act act = asks act.who (ask_of act.action)

-- member 0 opens the table, and the first members sit, in order. The newest request stands first
abbrev pub seated : ℕ → List Asked
seated zero = record { member = 0; ask = None } ∷ []
seated (suc members) = asks members ask.Sit ∷ seated members

-- member 0 starts the game, and its acts are asked for
abbrev pub table_asks : ℕ → List Act → List Asked
table_asks players past = map asks_act past ++ asks 0 ask.Start ∷ seated players

-- the lines

-- a member's message is its request in room 1, with this number
abbrev pub message : ℕ → ℕ → Option Ask → List ℕ
message table number None =
    codes "open {\"number\":"
    ++ (decimal number ++ (codes ",\"room\":1,\"table\":" ++ (decimal table ++ codes "}")))
message table number (Some ask) = request_text (request.Room 1 table number ask)

-- member 0 is on connection 1, and so on; all moments are 0
abbrev pub says : ℕ → List ℕ → ScriptLine
says member text = line.Says 0 (member + 1) (got.Text text)

-- how many of these requests are a member's
abbrev pub asked_by : ℕ → List Asked → ℕ
asked_by member all = count_by (λ (a : Asked). a.member == member) all

-- a request, behind earlier ones at its table: a member numbers them from 1
abbrev pub ask_line : ℕ → Asked → List Asked → ScriptLine
ask_line table a before = says a.member (message table (asked_by a.member before + 1) a.ask)

-- the requests as lines, the oldest first
abbrev pub ask_lines : ℕ → List Asked → List ScriptLine
ask_lines table [] = []
ask_lines table (a ∷ before) = ask_lines table before ++ ask_line table a before ∷ []

-- the lines of a table: the requests up to the end of its game, the clerk, who saves it, and the
-- close
abbrev pub lines_with : ℕ → List Asked → List ScriptLine
lines_with table all =
    ask_lines table all ++ line.Clerk 0 ∷ ask_line table (asks 0 ask.Close) all ∷ []

abbrev pub table_lines : ℕ → ℕ → List ScriptLine
table_lines seed table =
    lines_with table (table_asks (made_players table) (made_game seed table).past)

-- a member says hello: m0 with the key k0, and so on
abbrev pub hello_line : ℕ → ScriptLine
hello_line member =
    says member
    (request_text (request.Hello (codes "m" ++ decimal member) (codes "k" ++ decimal member)))

abbrev pub hello_lines : List ScriptLine
hello_lines = map hello_line (range_with_len 0 MADE_MEMBERS)

-- the lines of the made script: the hellos, and the tables in order
abbrev pub made_lines : ℕ → ℕ → List ScriptLine
made_lines count seed = hello_lines ++ flat_map (table_lines seed) (range_with_len 1 count)

-- the line that is written of its run

-- how many acts all games have, and the sum of their scores

abbrev pub made_acts : ℕ → ℕ → ℕ
made_acts count seed =
    sum (map (λ table. length (made_game seed table).past) (range_with_len 1 count))

abbrev pub made_score : ℕ → ℕ → ℕ
made_score count seed = sum (map (λ table. score (made_game seed table)) (range_with_len 1 count))

abbrev pub summary : ℕ → ℕ → ℕ → ℕ → List ℕ
summary tables acts score bytes =
    codes "made " ++ (decimal tables ++ (codes " tables, " ++ (decimal acts
    ++ (codes " acts, " ++ (decimal score ++ (codes " score, " ++ (decimal bytes
    ++ codes " bytes\n")))))))

-- the same of the made script, whose run sent so many bytes
abbrev pub made_text : ℕ → ℕ → ℕ → List ℕ
made_text count seed bytes =
    summary count (made_acts count seed) (made_score count seed) bytes
