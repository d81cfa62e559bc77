-- What do the database file and its log hold, before a store is opened over them?
use Rattle.std.specs.Prelude.{◌≡◌, ℤ, ◌^◌, ◌<◌, length, pos, [], ◌∷◌}
use Rattle.sqlite_value.specs.declared.value.Value.TheVariants.{Int}
use Rattle.sqlite_wal.specs.Recovery.{Image}
use Rattle.sqlite_trees.specs.Tree.{Trees}
use Rattle.sqlite_trees.specs.Objects.{catalog_tree}
use Rattle.sqlite_catalog.specs.Listing.{Lists}
use Rattle.sqlite.specs.Files.{HoldsDatabase}
use Rattle.hb_keeper.specs.KeptGames.{Content}
use Rattle.hb_sqlite.specs.Store.{store_schema}
use Rattle.hb_sqlite.specs.Stages.{no_schema}
use Rattle.hb_sqlite.specs.StoreTables.{version_row, run_row, game_rows, seat_rows, numbered_from}

-- the tables of a store hold the content
pub record HoldsContent (db : Trees) (content : Content) : Type 0 where
  pub listed : Lists (db catalog_tree) store_schema
  pub version : db 0 ≡ version_row ∷ []
  pub runs : db 1 ≡ run_row content.last_run ∷ []
  pub few : length content.rows < 2 ^ 63
  pub games : db 2 ≡ game_rows 1 content.rows
  pub seats : db 4 ≡ numbered_from 1 (seat_rows 1 content.rows)

-- the two files hold a database, whose tables are those of a store with this content
abbrev pub FilesHold : Image → Content → Type 0
FilesHold image content = (db : Trees) × HoldsDatabase image db × HoldsContent db content

-- the same, of a store whose only row of `version` has this number
abbrev pub FilesHoldVersion : Image → ℤ → Type 0
FilesHoldVersion image n = (db : Trees) × HoldsDatabase image db
    × Lists (db catalog_tree) store_schema × (db 0 ≡ (Int (pos 1) ∷ Int n ∷ []) ∷ [])

-- the two files hold a database without tables
abbrev pub FilesHoldNoTable : Image → Type 0
FilesHoldNoTable image =
    (db : Trees) × HoldsDatabase image db × Lists (db catalog_tree) no_schema
