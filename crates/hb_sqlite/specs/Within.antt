-- Internal: no public clause cites this.
-- What does a step inside a transaction leave?
use Rattle.std.specs.Prelude.{◌≡◌, ℕ, ◌^◌, ◌<◌, length, true, List, [], ◌∷◌, Result, IfOk}
use Rattle.sqlite_value.specs.Order.{Row}
use Rattle.sqlite.specs.Effect.{Database}
use Rattle.sqlite.specs.State.{State}
use Rattle.hb_keeper.specs.declared.rows.Key.{Key}
use Rattle.hb_keeper.specs.declared.rows.GameRow.{GameRow}
use Rattle.hb_keeper.specs.KeptGames.{Content}
use Rattle.hb_sqlite.specs.Store.{store_schema}
use Rattle.hb_sqlite.specs.StoreTables.{version_row, run_row, game_rows, seat_rows, numbered_from}
use Rattle.hb_sqlite.specs.StoreSteps.{IsSure}

-- the tables hold this last run, these games and these seats
pub record Holds (db : Database) (last : ℕ) (games : List (Key
    × GameRow)) (seats : List Row) : Type 0 where
  pub schema : db.schema ≡ store_schema
  pub version : db.trees 0 ≡ version_row ∷ []
  pub runs : db.trees 1 ≡ run_row last ∷ []
  pub kept : db.trees 2 ≡ game_rows 1 games
  pub placed : db.trees 4 ≡ numbered_from 1 seats

-- the last commit holds the content
pub record Backed (s : State) (content : Content) : Type 0 where
  pub holds : Holds s.committed content.last_run content.rows (seat_rows 1 content.rows)
  pub few : length content.rows < 2 ^ 63

-- inside the transaction the tables hold these games and seats
pub record Placing (s : State) (last : ℕ) (games : List (Key
    × GameRow)) (seats : List Row) : Type 0 where
  pub inside : s.in_transaction ≡ true
  pub holds : Holds s.now last games seats

-- A step inside a transaction. If it fails, the last commit is as it was.
pub record DoesWithin {A E : Type 0} (old new : State) (Before : Content
    → Type 0) (After : Content → A → Type 0) (result : Result A E) : Type 0 where
  pub sure : IsSure new → IsSure old
  pub backed : IsSure new → (content : Content) → Backed old content → Backed new content
  pub done : IsSure new → (content : Content) → Before content → IfOk result (After content)
