-- Which replays look alike to the seat of a command? They are written alike.
use Rattle.std.specs.Prelude.{◌≡◌, ℕ}
use Rattle.hb_replay.specs.Contents.{Contents}
use Rattle.hb_words.specs.declared.commands.ReplayCommand.{ReplayCommand}
use Rattle.hb_words.specs.declared.commands.ReplayCommand.TheVariants.{Watch, Look, Check, Copy}
use Rattle.hb_cli.specs.Outputs.{after_first, output, seen_by}

-- two replays with the same names and the same game as the seat has observed it
pub record AreSeenAlike (seat : ℕ) (r s : Contents) : Type 0 where
  pub name : r.name ≡ s.name
  pub players : r.players ≡ s.players
  pub seen : seen_by seat r.game ≡ seen_by seat s.game

-- two replays that differ in nothing that the command's seat may see; the commands without a seat
-- show a whole replay
abbrev pub AreAlike : ReplayCommand → Contents → Contents → Type 0
AreAlike (Watch seat) r s = AreSeenAlike seat r s
AreAlike (Look seat turn) r s =
    seen_by seat (after_first turn r.game) ≡ seen_by seat (after_first turn s.game)
AreAlike Check r s = r ≡ s
AreAlike Copy r s = r ≡ s

-- such replays are written alike
abbrev pub AlikeIsWrittenAlike : Type 0
AlikeIsWrittenAlike = (command : ReplayCommand) (r s : Contents) → AreAlike command r s
    → output command r ≡ output command s
