-- What is written of a member's kept games?
use Rattle.std.specs.Prelude.{ℕ, List, ◌++◌, codes, decimal, flat_map}
use Rattle.hb_keeper.specs.declared.rows.Line.{Line}

-- a line for each game: its id, its score, and the number of its end
abbrev pub game_text : Line → List ℕ
game_text game =
    decimal game.id ++ (codes " " ++ (decimal game.score ++ (codes " " ++ (decimal game.how
    ++ codes "\n"))))

abbrev pub games_text : List Line → List ℕ
games_text games = flat_map game_text games
