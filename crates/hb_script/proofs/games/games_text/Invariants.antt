use Rattle.std.proofs.Common.{◌≡◌, string_bytes, take}
use Rattle.hb_script.specs.GamesText.{games_text}
use Rattle.hb_script.proofs.games.games_text.Given as goal

abbrev pub invariant-loop-game : goal.invariant-loop-game
invariant-loop-game l = string_bytes l.text ≡ games_text (take l.game-index l.games)
