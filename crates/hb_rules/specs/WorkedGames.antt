-- Which games show what the definitions say? Worked games, computed on the definitions: read them
-- beside these. A deck in order has its cards in order of identity numbers.
use Rattle.std.specs.Prelude.{◌≡◌, ℕ, true, false, List, [], ◌∷◌, Some, None, refl, map, reverse}
use Rattle.hb_rules.specs.declared.acts.Options.{Options}
use Rattle.hb_rules.specs.declared.acts.Act.{Act}
use Rattle.hb_rules.specs.declared.acts.Action.TheVariants as action
use Rattle.hb_rules.specs.declared.acts.Clue.TheVariants as clue
use Rattle.hb_rules.specs.declared.acts.Rule.TheVariants as rule
use Rattle.hb_rules.specs.declared.acts.EndHow.{EndHow}
use Rattle.hb_rules.specs.declared.acts.EndHow.TheVariants as how
use Rattle.hb_rules.specs.declared.suits.Suit.TheVariants as suit
use Rattle.hb_rules.specs.declared.suits.Kind.TheVariants as kind
use Rattle.hb_rules.specs.declared.variants.Variant.{Variant}
use Rattle.hb_rules.specs.Cards.{cards, copies}
use Rattle.hb_rules.specs.declared.setups.Setup.{Setup}
use Rattle.hb_rules.specs.Setup.{by}
use Rattle.hb_rules.specs.Start.{default_options}
use Rattle.hb_rules.specs.Touch.{touches, colors}
use Rattle.hb_rules.specs.Hands.{left}
use Rattle.hb_rules.specs.Result.{height, tokens, strikes, ended, current, score}
use Rattle.hb_rules.specs.Legality.{rule as broken, touched}
use Rattle.hb_rules.specs.Events.{events, acts_of}

-- acts by the seat that takes them
abbrev play : ℕ → ℕ → Act
play who order = by who (action.Play order)

abbrev discard : ℕ → ℕ → Act
discard who order = by who (action.Discard order)

abbrev rank_clue : ℕ → ℕ → ℕ → Act
rank_clue who to rank = by who (action.Clue to (clue.Rank rank))

abbrev end : ℕ → EndHow → Act
end who how = by who (action.End how)

abbrev no_variant : Variant
no_variant =
    record {
      suits = Some suit.Red ∷ Some suit.Yellow ∷ Some suit.Green ∷ Some suit.Blue ∷ Some suit.Purple
          ∷ None ∷ [];
      special = None;
      valid = refl;
    }

abbrev ordered : Variant → ℕ → Options → Setup
ordered v n o = record { variant = v; options = o; players = n; deck = record { items = cards v } }

-- two players and a deck in order
abbrev two_players : Setup
two_players = ordered no_variant 2 default_options

-- No discard at eight tokens, and no clue without one; after eight clues a discard is legal.
no_discard_at_eight_tokens : broken two_players [] (discard 0 0) ≡ Some rule.AllTokens
unfolding cards copies broken ended
no_discard_at_eight_tokens = refl

abbrev eight : List Act
eight =
    rank_clue 1 0 1 ∷ rank_clue 0 1 3 ∷ rank_clue 1 0 1 ∷ rank_clue 0 1 3
    ∷ rank_clue 1 0 1 ∷ rank_clue 0 1 3 ∷ rank_clue 1 0 1 ∷ rank_clue 0 1 3 ∷ []

no_clue_without_token : broken two_players eight (rank_clue 0 1 3) ≡ Some rule.NoTokens
unfolding cards copies broken ended
no_clue_without_token = refl

discard_after_eight_clues : broken two_players eight (discard 0 0) ≡ None
unfolding cards copies broken ended
discard_after_eight_clues = refl

-- a suit is completed while eight tokens are held, which gives no ninth
abbrev complete : List Act
complete =
    reverse (play 0 0 ∷ rank_clue 1 0 1 ∷ play 0 3 ∷ play 1 5 ∷ discard 0 1 ∷ play 1 7
    ∷ play 0 10 ∷ play 1 9 ∷ [])

first_suit_complete :
    (map (height two_players complete) (0 ∷ 1 ∷ 2 ∷ 3 ∷ 4 ∷ []) ≡ (5 ∷ 1 ∷ 0 ∷ 0 ∷ 0 ∷ []))
    × (tokens two_players complete ≡ 8)
    × (strikes two_players complete ≡ 0)
    × (left two_players complete ≡ 33)
    × (score two_players complete ≡ 6)
    × (current two_players complete ≡ 0)
    × (ended two_players complete ≡ None)
unfolding cards copies broken ended
first_suit_complete = (refl, refl, refl, refl, refl, refl, refl)

-- five players with an extra card are dealt the whole deck of with_black suits: each has one turn
abbrev with_black : Variant
with_black =
    record {
      suits = Some suit.Red ∷ Some suit.Green ∷ Some suit.Black ∷ None ∷ None ∷ None ∷ [];
      special = None;
      valid = refl;
    }

abbrev whole_deal : Setup
whole_deal = ordered with_black 5 (record default_options { extra_card = true })

abbrev clues : List Act
clues = rank_clue 4 0 1 ∷ rank_clue 3 0 1 ∷ rank_clue 2 0 1 ∷ rank_clue 1 0 1 ∷ rank_clue 0 1 3 ∷ []

one_round_of_clues :
    (ended whole_deal clues ≡ Some how.Normal)
    × (score whole_deal clues ≡ 0)
    × (broken whole_deal clues (play 0 0) ≡ Some rule.GameOver)
unfolding cards copies broken ended
one_round_of_clues = (refl, refl, refl)

-- Prism: complete colours, of which the rank takes one in turn
abbrev prism : Variant
prism =
    record no_variant {
      suits = Some suit.Red ∷ Some suit.Yellow ∷ Some suit.Green ∷ Some suit.Blue ∷ Some suit.Prism
          ∷ None ∷ [];
      valid = refl;
    }

prism_touched :
    (colors prism ≡ (0 ∷ 1 ∷ 2 ∷ 3 ∷ []))
    × (touches prism (clue.Color 0) (record { suit = 4; rank = 1 }) ≡ true)
    × (touches prism (clue.Color 0) (record { suit = 4; rank = 5 }) ≡ true)
    × (touches prism (clue.Color 0) (record { suit = 4; rank = 2 }) ≡ false)
    × (touches prism (clue.Color 1) (record { suit = 4; rank = 2 }) ≡ true)
unfolding cards copies broken ended
prism_touched = (refl, refl, refl, refl, refl)

-- pink ones: no clue names rank 1, and every rank clue touches them
abbrev pink_ones : Variant
pink_ones =
    record {
      suits = no_variant.suits;
      special = Some (record { rank = 1; kind = kind.Pink });
      valid = refl;
    }

abbrev pink_ones_game : Setup
pink_ones_game = ordered pink_ones 2 default_options

pink_ones_touched :
    (broken pink_ones_game [] (rank_clue 0 1 1) ≡ Some rule.NoSuchClue)
    × (broken pink_ones_game [] (rank_clue 0 1 3) ≡ None)
    × (touched pink_ones_game (rank_clue 0 1 3 ∷ []) 0 (clue.Rank 3) ≡ (0 ∷ 1 ∷ 2 ∷ []))
unfolding cards copies broken ended
pink_ones_touched = (refl, refl, refl)

-- the events name the acts
events_name_acts : acts_of (events two_players complete) ≡ complete
unfolding cards copies broken ended
events_name_acts = refl

-- an end is called out of turn, and the score is lost; a normal end can't be called, and only a
-- seat may call
called_end :
    (broken two_players [] (end 1 how.Timeout) ≡ None)
    × (score two_players (end 1 how.Timeout ∷ []) ≡ 0)
    × (broken two_players [] (end 1 how.Normal) ≡ Some rule.NoSuchEnd)
    × (broken two_players [] (end 2 how.Timeout) ≡ Some rule.NoSuchSeat)
unfolding cards copies broken ended
called_end = (refl, refl, refl, refl)
