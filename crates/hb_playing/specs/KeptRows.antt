-- Which row is kept of a game, and of which games is one?
use Rattle.std.specs.Prelude.{◌≡◌, ℕ, List, Some, length}
use Rattle.hb_rules.specs.Numbers.{state_number}
use Rattle.hb_rules.specs.Positions.{ended, score}
use Rattle.hb_rules.specs.Setup.{Position}
use Rattle.hb_suits.specs.VariantNames.{variant_of}
use Rattle.hb_keeper.specs.declared.rows.GameRow.{GameRow}
use Rattle.hb_replay.specs.Contents.{HasTimes}
use Rattle.hb_club.specs.ClerkCalls.{SetNote, note_lists}
use Rattle.hb_club.specs.EndedReplays.{game_text}

-- the row of a game, with the names of its players and of its variant, and the notes that were set
abbrev pub row_with : List (List ℕ) → List ℕ → Position → List SetNote → GameRow
row_with names name game notes =
    let lists = note_lists names (length game.setup.deck.items) notes in record {
      names = names;
      text = game_text names name game lists;
      how = state_number (ended game);
      score = score game;
    }

-- the names are those of the game, and a replay can hold its times: it is so of each game that a
-- room starts
pub record IsKeepable (names : List (List ℕ)) (name : List ℕ) (game : Position) : Type 0 where
  pub seats : length names ≡ game.setup.players
  pub named : variant_of name ≡ Some game.setup.variant
  pub times : HasTimes game.setup.options
