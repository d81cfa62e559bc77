-- Which rooms show what the definitions say? Worked lists of events, computed on the definitions:
-- read them beside these. In each list the oldest event stands first. The deck of all tables is
-- that of the variant in order of identity numbers.
use Rattle.std.specs.Prelude.{◌≡◌, ℕ, true, List, [], ◌∷◌, ◌++◌, Some, None, codes, drop, map, refl, replicate, reverse, take}
use Rattle.hb_rules.specs.declared.acts.Action.TheVariants as action
use Rattle.hb_rules.specs.declared.acts.EndHow.TheVariants as how
use Rattle.hb_rules.specs.declared.acts.Options.{Options}
use Rattle.hb_rules.specs.declared.acts.Rule.TheVariants as rule
use Rattle.hb_rules.specs.declared.suits.Identity.{Identity}
use Rattle.hb_rules.specs.declared.suits.Suit.TheVariants as suit
use Rattle.hb_rules.specs.declared.variants.Variant.{Variant}
use Rattle.hb_rules.specs.Cards.{cards, copies}
use Rattle.hb_rules.specs.Legality.{rule as broken}
use Rattle.hb_rules.specs.Result.{ended}
use Rattle.hb_rules.specs.Setup.{by, with_deck}
use Rattle.hb_rules.specs.Start.{default_options}
use Rattle.hb_suits.specs.VariantNames.{listed, table, variant_of}
use Rattle.hb_suits.specs.Variants.{variant_with}
use Rattle.hb_review.specs.declared.error.ReviewError.TheVariants as review
use Rattle.hb_club.specs.declared.clerks.Noted.TheVariants as noted
use Rattle.hb_club.specs.declared.commands.Command.{Command}
use Rattle.hb_club.specs.declared.commands.Command.TheVariants as command
use Rattle.hb_club.specs.declared.items.Item.{Item}
use Rattle.hb_club.specs.declared.items.What.{What}
use Rattle.hb_club.specs.declared.items.What.TheVariants as what
use Rattle.hb_club.specs.declared.replies.Refusal.{Refusal}
use Rattle.hb_club.specs.declared.replies.Refusal.TheVariants as refusal
use Rattle.hb_club.specs.declared.replies.Reply.TheVariants.{Done, Refused}
use Rattle.hb_club.specs.EndedReplays.{Finished}
use Rattle.hb_club.specs.RoomEvents.{Added, Call, Happening, Loaded, Notes, Outcome, Replied, RoomEvent, Saved, Site}
use Rattle.hb_club.specs.Rooms.{past_of}
use Rattle.hb_club.specs.TableFacts.{record_of}
use Rattle.hb_club.specs.Views.{View, view_at}

abbrev no_variant : Variant
no_variant =
    record {
      suits = Some suit.Red ∷ Some suit.Yellow ∷ Some suit.Green ∷ Some suit.Blue ∷ Some suit.Purple
          ∷ None ∷ [];
      special = None;
      valid = refl;
    }

-- a room whose games have this deck
abbrev site : List Identity → Site
site deck = record { room = 1; seed = replicate 32 0; written = Some deck; run = 1 }

abbrev ordered : Site
ordered = site (cards no_variant)

abbrev ann : List ℕ
ann = codes "Ann"

abbrev bob : List ℕ
bob = codes "Bob"

-- an entry of a member
abbrev at : ℕ → List ℕ → ℕ → ℕ → Command → RoomEvent
at moment member table number command = Call (record {
  moment = moment;
  member = member;
  table = table;
  number = number;
  command = command;
})

-- what is replied to the events, and the items that they leave, the oldest first
abbrev replies : List RoomEvent → List Outcome
replies events = reverse (map (λ (h : Happening). h.answer) (past_of ordered (reverse events)))

abbrev items : List RoomEvent → List Item
items events = reverse (record_of (past_of ordered (reverse events)))

abbrev done : Outcome
done = Replied Done

abbrev no : Refusal → Outcome
no why = Replied (Refused why)

abbrev stamp : ℕ → What → Item
stamp moment w = record { moment = moment; what = w }

abbrev play : ℕ → Command
play order = command.Act (action.Play order)

-- Ann opens a table, and both sit.
abbrev gathering : Options → List RoomEvent
gathering options =
    at 0 ann 1 1 (command.Open (codes "No Variant") options) ∷ at 0 ann 1 2 command.Sit
    ∷ at 0 bob 1 1 command.Sit ∷ []

-- A number keeps its first reply: the same start gets the refusal again, though two are seated by
-- then; a start with another number is done.
refused_start : replies (at 0 ann 1 1 (command.Open (codes "No Variant") default_options)
    ∷ at 0 ann 1 2 command.Sit ∷ at 0 ann 1 3 command.Start ∷ at 0 bob 1 1 command.Sit
    ∷ at 0 ann 1 3 command.Start ∷ at 0 ann 1 4 command.Start ∷ at 0 ann 1 5 command.Start
    ∷ at 0 bob 1 2 command.Close ∷ at 0 ann 1 6 command.Close ∷ [])
    ≡ done ∷ done ∷ no refusal.TooFew ∷ done ∷ no refusal.TooFew ∷ done ∷ no refusal.Started
    ∷ no refusal.NotHost ∷ no refusal.NotFinished ∷ []
unfolding cards copies broken ended listed table variant_of variant_with
refused_start = refl

-- A repeat acts once: there is one act.
abbrev repeats : List RoomEvent
repeats = gathering default_options ++ at 0 ann 1 3 command.Start ∷ at 5 ann 1 4 (play 0)
    ∷ at 6 ann 1 4 (play 0) ∷ at 7 ann 1 4 (play 1) ∷ []

repeated_play : replies repeats
    ≡ done ∷ done ∷ done ∷ done ∷ done ∷ done ∷ no refusal.NumberReused ∷ []
unfolding cards copies broken ended listed table variant_of variant_with
repeated_play = refl

one_act : items repeats
    ≡ stamp 0 (what.Opened ann) ∷ stamp 0 (what.Sat ann) ∷ stamp 0 (what.Sat bob)
    ∷ stamp 0 (what.Started (Some ann ∷ Some bob ∷ None ∷ None ∷ None ∷ None ∷ []))
    ∷ stamp 5 (what.Acted (by 0 (action.Play 0))) ∷ []
unfolding cards copies broken ended listed table variant_of variant_with
one_act = refl

-- Time comes first: Ann has 10 seconds from the start at 1000, so at 11000 her play finds the game
-- over. The end is stamped with the deadline, also if the play comes later.
abbrev timed : Options
timed = record default_options { timed = true; base_s = 10; per_turn_s = 2 }

abbrev late_play : ℕ → List RoomEvent
late_play moment =
    gathering timed ++ at 1000 ann 1 3 command.Start ∷ at moment ann 1 4 (play 0) ∷ []

in_time_play : replies (late_play 10999) ≡ done ∷ done ∷ done ∷ done ∷ done ∷ []
unfolding cards copies broken ended listed table variant_of variant_with
in_time_play = refl

timed_out : replies (late_play 12000)
    ≡ done ∷ done ∷ done ∷ done ∷ no (refusal.Rule rule.GameOver) ∷ []
unfolding cards copies broken ended listed table variant_of variant_with
timed_out = refl

timeout_item : items (late_play 12000)
    ≡ stamp 0 (what.Opened ann) ∷ stamp 0 (what.Sat ann) ∷ stamp 0 (what.Sat bob)
    ∷ stamp 1000 (what.Started (Some ann ∷ Some bob ∷ None ∷ None ∷ None ∷ None ∷ []))
    ∷ stamp 11000 (what.Acted (by 0 (action.End how.Timeout))) ∷ []
unfolding cards copies broken ended listed table variant_of variant_with
timeout_item = refl

-- A review begins behind the end; a table is closed once its game is kept; and at an older table
-- every entry is refused.
abbrev reviewing : List RoomEvent
reviewing = gathering default_options ++ at 0 ann 1 3 command.Start ∷ at 0 ann 1 4 command.Terminate
    ∷ at 0 ann 1 5 (command.Hypo (action.Play 0)) ∷ at 0 ann 1 6 (command.Go 0)
    ∷ at 0 ann 1 7 (command.Hypo (action.Play 49)) ∷ at 0 ann 1 8 command.Undo
    ∷ at 0 ann 1 9 (command.Go 2) ∷ at 0 ann 1 10 command.Close ∷ Notes 0 (Saved 1 1)
    ∷ at 0 ann 1 11 command.Close ∷ at 0 ann 1 11 command.Close
    ∷ at 0 bob 2 1 (command.Open (codes "No Variant") default_options)
    ∷ at 0 ann 1 11 command.Close ∷ []

reviewed_and_closed : replies reviewing
    ≡ done ∷ done ∷ done ∷ done ∷ done
    ∷ no (refusal.Review (review.Broken rule.GameOver)) ∷ done
    ∷ no (refusal.Review (review.Broken rule.NotInHand))
    ∷ no (refusal.Review review.NothingToUndo) ∷ no (refusal.Review review.NoSuchTurn)
    ∷ no refusal.Unsaved ∷ Added noted.Saved ∷ done ∷ done ∷ done ∷ no (refusal.OldTable 2) ∷ []
unfolding cards copies broken ended listed table variant_of variant_with
reviewed_and_closed = refl

-- A load is pending until the clerk answers it, and is answered once.
abbrev kept_game : Finished
kept_game = record {
  name = codes "No Variant";
  players = ann ∷ bob ∷ [];
  game = record {
    setup = with_deck no_variant default_options 2 (cards no_variant);
    past = by 0 (action.End how.Terminated) ∷ [];
  };
}

abbrev loads : List RoomEvent
loads = gathering default_options ++ at 0 ann 1 3 (command.Load 9) ∷ at 0 ann 1 4 (command.Load 1)
    ∷ Notes 0 (Loaded 1 9 None) ∷ at 0 ann 1 5 (command.Load 1)
    ∷ Notes 0 (Loaded 1 1 (Some kept_game)) ∷ Notes 0 (Loaded 1 1 (Some kept_game))
    ∷ at 0 ann 1 6 command.Start ∷ at 0 ann 1 7 (command.Go 1) ∷ []

loaded_once : replies loads
    ≡ done ∷ done ∷ done ∷ done ∷ no refusal.Loading ∷ Added noted.NoGame ∷ done
    ∷ Added noted.Loaded ∷ Added noted.Nothing ∷ no refusal.Started ∷ done ∷ []
unfolding cards copies broken ended listed table variant_of variant_with
loaded_once = refl

-- What Ann sees is the same whatever her first card is: it was exchanged with the last of the deck.
abbrev exchanged : List Identity
exchanged = record { suit = 4; rank = 5 } ∷ take 48 (drop 1 (cards no_variant))
    ++ record { suit = 0; rank = 1 } ∷ []

abbrev view_of_ann : List Identity → View
view_of_ann deck =
    view_at (site deck) (reverse (gathering default_options ++ at 0 ann 1 3 command.Start ∷ [])) ann

same_view : view_of_ann (cards no_variant) ≡ view_of_ann exchanged
unfolding view_at cards copies broken ended listed table variant_of variant_with
same_view = refl
