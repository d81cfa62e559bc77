-- What opens a table? The name of a variant and the options of its game, in which the first seat
-- has the first turn.
use Rattle.std.specs.Prelude.{ℕ, List, Bool}
use Rattle.hb_rules.specs.declared.acts.Options.{Options}
use Rattle.hb_request.specs.declared.requests.Ask.{Ask}
use Rattle.hb_request.specs.declared.requests.Ask.TheVariants as ask

-- the opening with a variant's name and options
abbrev pub opened : List ℕ → Options → Ask
opened variant o =
    ask.Open variant o.empty_clues o.extra_card o.less_card o.timed o.base_s o.per_turn_s

-- the options of an opening
abbrev pub opening_options : Bool → Bool → Bool → Bool → ℕ → ℕ → Options
opening_options empty_clues extra_card less_card timed base_s per_turn_s = record {
  starting = 0;
  empty_clues = empty_clues;
  extra_card = extra_card;
  less_card = less_card;
  timed = timed;
  base_s = base_s;
  per_turn_s = per_turn_s;
}
