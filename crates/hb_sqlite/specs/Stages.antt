-- How are the tables of a new store made, step by step, inside one transaction?
use Rattle.std.specs.Prelude.{◌≡◌, ◌≢◌, ℕ, ℤ, pos, true, List, [], ◌∷◌, Result, Err, OnOk, IsTrue}
use Rattle.std.specs.List.{AllByRecursion}
use Rattle.sqlite_value.specs.Order.{Row}
use Rattle.sqlite_schema.specs.declared.schema.Schema.{Schema}
use Rattle.sqlite_catalog.specs.Change.{created}
use Rattle.sqlite.specs.State.{State, HasCleanDisk}
use Rattle.sqlite_value.specs.declared.value.Value.TheVariants.{Int}
use Rattle.hb_keeper.specs.KeptGames.{Content}
use Rattle.hb_sqlite.specs.declared.errors.OpenError.{OpenError}
use Rattle.hb_sqlite.specs.declared.errors.OpenError.TheVariants.{BadVersion}
use Rattle.hb_sqlite.specs.Store.{store_schema, version_table, runs_table, games_table}
use Rattle.hb_sqlite.specs.StoreTables.{Tells, version_row, run_row}

-- no tables
abbrev pub no_schema : Schema
no_schema = record { tables = []; indexes = []; views = [] }

-- the tables so far
abbrev pub with_version : Schema
with_version = record { tables = version_table ∷ []; indexes = []; views = [] }

abbrev pub with_runs : Schema
with_runs = record { tables = version_table ∷ runs_table ∷ []; indexes = []; views = [] }

abbrev pub with_games : Schema
with_games = created with_runs games_table

-- inside a transaction, the schema so far, and the rows of its tables
pub record Stage (s : State) (schema : Schema) (tables : List (ℕ × List Row)) : Type 0 where
  pub inside : s.in_transaction ≡ true
  pub has : s.now.schema ≡ schema
  pub rows : AllByRecursion (λ (p : ℕ × List Row). s.now.trees p.0 ≡ p.1) tables

-- the stages, in order
abbrev pub HasNoTable : State → Type 0
HasNoTable s = Stage s no_schema []

abbrev pub HasVersion : State → Type 0
HasVersion s = Stage s with_version ((0, []) ∷ [])

abbrev pub HasRuns : State → Type 0
HasRuns s = Stage s with_runs ((0, []) ∷ (1, []) ∷ [])

abbrev pub HasGames : State → Type 0
HasGames s = Stage s with_games ((0, []) ∷ (1, []) ∷ (2, []) ∷ [])

abbrev pub HasSeats : State → Type 0
HasSeats s = Stage s store_schema ((0, []) ∷ (1, []) ∷ (2, []) ∷ (4, []) ∷ [])

abbrev pub HasFirstVersion : State → Type 0
HasFirstVersion s =
    Stage s store_schema ((0, version_row ∷ []) ∷ (1, []) ∷ (2, []) ∷ (4, []) ∷ [])

abbrev pub HasFirstRun : State → Type 0
HasFirstRun s =
    Stage s store_schema ((0, version_row ∷ []) ∷ (1, run_row 0 ∷ []) ∷ (2, []) ∷ (4, []) ∷ [])

-- If the disk returned what was written, a step that succeeds leads from one stage to another.
pub record Reaches {A E : Type 0} (old new : State) (Before After : State → Type 0)
    (result : Result A E) : Type 0 where
  pub clean : HasCleanDisk new → HasCleanDisk old
  pub done : HasCleanDisk new → Before old → OnOk result (After new)

-- the content of a new store
abbrev pub nothing_kept : Content
nothing_kept = record { last_run = 0; rows = [] }

-- the store is open, and tells that it contains nothing
pub record IsNewStore (s : State) : Type 0 where
  pub is_open : IsTrue s.is_open
  pub tells : Tells s nothing_kept

-- the store has these tables, and the one row of `version` has this number
pub record HoldsVersion (s : State) (n : ℤ) : Type 0 where
  pub schema : s.now.schema ≡ store_schema
  pub version : s.now.trees 0 ≡ (Int (pos 1) ∷ Int n ∷ []) ∷ []

-- a store without tables is opened as a new one, and never refused for its version
pub record OpensNew {A : Type 0} (new : State) (result : Result A OpenError) : Type 0 where
  pub ok : OnOk result (IsNewStore new)
  pub version : (n : ℤ) → result ≢ Err (BadVersion n)

-- a store of version n is opened only if n is 1, and is refused for no other version
pub record OpensVersion {A : Type 0} (n : ℤ) (new : State) (result : Result A OpenError)
    : Type 0 where
  pub ok : OnOk result ((n ≡ pos 1) × IsTrue new.is_open)
  pub version : (m : ℤ) → result ≡ Err (BadVersion m) → (m ≡ n) × (n ≢ pos 1)
