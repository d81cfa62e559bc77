-- Internal: no public clause cites this.
-- What is read of the rows of a game?
use Rattle.std.specs.Prelude.{◌≡◌, Option, Some, None, ⊤}
use Rattle.hb_keeper.specs.declared.rows.GameRow.{GameRow}
use Rattle.hb_sqlite.specs.declared.reading.Head.{Head}

-- the game except its names
pub record IsHead (row : GameRow) (head : Head) : Type 0 where
  pub how : head.how ≡ row.how
  pub score : head.score ≡ row.score
  pub text : head.text ≡ row.text

abbrev pub IsHeadOf : Option GameRow → Option Head → Type 0
IsHeadOf None None = ⊤
IsHeadOf None (Some head) = ⊥
IsHeadOf (Some row) None = ⊥
IsHeadOf (Some row) (Some head) = IsHead row head
