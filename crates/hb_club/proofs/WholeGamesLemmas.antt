-- Is each game that a note of the clerk brings whole? Yes: what a text says is a replay, and of that only an ended game is read.
use Rattle.std.proofs.Common.{◌≡◌, ℕ, ◌≤◌, Bool, true, false, List, refl, arith, subst, Some, None, Option}
use Rattle.std.specs.Prelude.{is_some, option_and_then, Result, Ok, Err}
use Rattle.serde_json.specs.Data.{Data}
use Rattle.serde_json.specs.Read.{read}
use Rattle.hb_rules.specs.declared.limits.TheConstants.{FEWEST_PLAYERS}
use Rattle.hb_rules.specs.Positions.{ended}
use Rattle.hb_rules.specs.Setup.{Position}
use Rattle.hb_rules.specs.Start.{CanStart, are_players}
use Rattle.hb_rules.proofs.DeckSize.{deck-length}
use Rattle.hb_json.specs.Results.{◌>>=◌}
use Rattle.hb_replay.specs.declared.errors.ReplayError.{ReplayError}
use Rattle.hb_replay.specs.declared.place.Place.{Place}
use Rattle.hb_replay.specs.declared.written.WrittenReplay.{WrittenReplay}
use Rattle.hb_replay.specs.Contents.{Contents, IsReplay}
use Rattle.hb_replay.specs.Refusals.{game_in, replay_in, replay_of, shaped}
use Rattle.hb_replay.specs.Shape.{shape_of}
use Rattle.hb_replay.specs.WrittenReplay.{contents_of}
use Rattle.hb_replay.proofs.IsReplay.{is-replay}
use Rattle.hb_club.specs.declared.clerks.ClerkNote.{ClerkNote}
use Rattle.hb_club.specs.declared.clerks.ClerkNote.TheVariants as note
use Rattle.hb_club.specs.EndedReplays.{Finished, ended_in, finished_when, read_ended}
use Rattle.hb_club.specs.RoomEvents.{Loaded, Notes, note_event}
use Rattle.hb_club.specs.WholeGames.{BringsWhole, IsWholeGame}

-- what is written is a replay, if its game is found
replay_in-is : (w : WrittenReplay) (r : Contents) → replay_in w ≡ Ok r → IsReplay r
replay_in-is w r is = pick (game_in w) refl is
  where
    pick : (o : Result Position ReplayError) → game_in w ≡ o → (o >>= λ p. Ok (contents_of w p)) ≡ Ok r → IsReplay r
    pick (Ok q) found same = let e : contents_of w q ≡ r = cc in subst IsReplay e (is-replay w q found)
    pick (Err why) found same = cc

-- and so is what a JSON value says
replay_of-is : (d : Data) (r : Contents) → replay_of d ≡ Ok r → IsReplay r
replay_of-is d r is = pick (shape_of d) is
  where
    pick : (o : Result WrittenReplay Place) → (shaped o >>= replay_in) ≡ Ok r → IsReplay r
    pick (Ok w) same = replay_in-is w r same
    pick (Err place) same = cc

two-players : (n : ℕ) → are_players n ≡ true → FEWEST_PLAYERS ≤ n
two-players n h = grind arith

whole-when : (d : Data) (r : Contents) (b : Bool) → replay_of d ≡ Ok r → is_some (ended r.game) ≡ b → IsWholeGame (finished_when b r)
whole-when d r true is over =
    let can : CanStart r.game.setup.variant r.game.setup.options r.game.setup.players r.game.setup.deck.items =
    (replay_of-is d r is).played.can in
    record {
      over = over;
      two = two-players r.game.setup.players can.players;
      cards = deck-length r.game.setup.variant r.game.setup.deck.items can.full;
    }
whole-when d r false is over = tt

whole-in : (d : Data) (o : Result Contents ReplayError) → replay_of d ≡ o → IsWholeGame (ended_in o)
whole-in d (Ok r) is = whole-when d r (is_some (ended r.game)) is refl
whole-in d (Err why) is = tt

-- the ended game that a text says is whole
read_ended-whole : (text : List ℕ) → IsWholeGame (read_ended text)
unfolding read_ended
read_ended-whole text = pick (read text)
  where
    pick : (o : Option Data) → IsWholeGame (option_and_then (λ (d : Data). ended_in (replay_of d)) o)
    pick None = tt
    pick (Some d) = whole-in d (replay_of d) refl

-- so is that of each note of the clerk
pub note_event-whole : (moment : ℕ) (n : ClerkNote) → BringsWhole (note_event moment n)
note_event-whole moment (note.Saved table id) = tt
note_event-whole moment (note.Loaded table id None) = tt
note_event-whole moment (note.Loaded table id (Some text)) = brings (read_ended text) (read_ended-whole text)
  where
    brings : (o : Option Finished) → IsWholeGame o → BringsWhole (Notes moment (Loaded table id o))
    brings None is = tt
    brings (Some r) is = is
